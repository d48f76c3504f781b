-- The sky plan and the script of the demo.
use Rattle.std.specs.Prelude.{ℕ, List, codes}

-- four stripes, cut finer near the equator
abbrev pub demo_sky : List ℕ
demo_sky = codes "overlap 65536\nstripe -268435472 1 8 4\nstripe -134217728 16 4 4\nstripe 0 16 4 4\nstripe 134217728 1 8 4\n"

-- aggregates over all, a grouped query, the brightest of a band, and five near pairs
abbrev pub demo_script : List ℕ
demo_script = codes "SELECT COUNT(*),SUM(flux),AVG(flux),MIN(z),MAX(z) FROM Object\nSELECT kind,COUNT(*),MAX(flux) FROM Object WHERE z>=0 GROUP BY kind\nSELECT objectId,flux FROM Object WHERE area_band(-1000000,1000000) ORDER BY flux DESC LIMIT 5\nSELECT a.objectId,b.objectId FROM Object a,Object b WHERE chord2(a,b)<=4294967296 AND a.objectId<b.objectId LIMIT 5\n"
