-- Texts of queries, and their printed texts.
use Rattle.std.specs.Prelude.{ℕ, List, ◌++◌, Option, None, Some, Result, Ok, Err, codes}
use Rattle.sql_tree.specs.declared.query.Query.{Query}
use Rattle.sql_rules.specs.Printed.{printed}
use Rattle.sql_rules.specs.Trees.{tree_of}
use Rattle.sql_rules.specs.declared.fault.SqlFault.{SqlFault}

-- a text's tree, printed
abbrev pub and_printed : Result Query SqlFault → Option (List ℕ)
and_printed (Ok q) = Some (printed q)
and_printed (Err why) = None

-- the printed text of the tree of a text
abbrev pub print_of : List ℕ → Option (List ℕ)
print_of text = and_printed (tree_of text)

-- a query, written with blanks, small letters, AS, ASC, signs before zeros and a semicolon
abbrev pub loosely_written : List ℕ
loosely_written =
    codes "select count ( * ) , avg(x)as m from Object as o where not(x != 1)and (x+001)*2 not between -2 and - 1 "
    ++ codes "or g is not null and x in(-0,-2)and Area_Box(1,-0) group by a , o . b order by a asc ;"

-- the printed text of the same query
abbrev pub closely_written : List ℕ
closely_written =
    codes "SELECT COUNT(*),AVG(x) AS m FROM Object o WHERE NOT (x<>1) AND (x+1)*2 NOT BETWEEN -2 AND -1 "
    ++ codes "OR g IS NOT NULL AND x IN (0,-2) AND area_box(1,0) GROUP BY a,o.b ORDER BY a"

-- items of signs and brackets, with blanks between them
abbrev pub signs_written : List ℕ
signs_written =
    codes "Select -x , ( x ) , x - -1,-(x)*-y as q From Object"

-- the printed text of the same items
abbrev pub signs_printed : List ℕ
signs_printed =
    codes "SELECT -x,(x),x--1,-(x)*-y AS q FROM Object"
