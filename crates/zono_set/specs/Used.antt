-- Whether a set took a row.
use Rattle.std.specs.Prelude.{Bool, true, false}
use Rattle.zono_set.specs.declared.zono.substitute.Used.{Used}
use Rattle.zono_set.specs.declared.zono.substitute.Used.TheVariants.{Yes, No}

-- used where the test passes
abbrev pub used_where : Bool → Used
used_where true = Yes
used_where false = No
