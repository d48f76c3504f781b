-- The first two objects of seed 1, each with the two square roots that place it.
use Rattle.std.proofs.Common.{refl, arith}
use Rattle.demo_rules.specs.DemoRows.{IsDemoObject, StandsAt}
use Rattle.demo_rules.specs.Examples.{first_object, first_point, second_object, second_point}

stands : StandsAt 1 1 first_point
stands = record {
  t = 5090477;
  h = 917331062;
  from_axis = (omega arith, omega arith);
  long = (omega arith, omega arith);
  is = refl;
}

pub first : IsDemoObject 1 1 first_object
first = record { id = refl; at = stands; further = refl }

second_stands : StandsAt 1 2 second_point
second_stands = record {
  t = 229692761;
  h = 221373840;
  from_axis = (omega arith, omega arith);
  long = (omega arith, omega arith);
  is = refl;
}

pub second : IsDemoObject 1 2 second_object
second = record { id = refl; at = second_stands; further = refl }
