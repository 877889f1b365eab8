-- A row of the profile: its number, the messages that it applies to, its path, the expected type,
-- and whether the value is required.
use Rattle.std.specs.Prelude.{ℕ, Bool, List, Option, option_map}
use Rattle.dap_profile.specs.PlaceSteps.{PlaceStep, steps_of}
use Rattle.dap_profile.specs.declared.profile.Kind.{Kind}
use Rattle.dap_profile.specs.declared.profile.Row.{Row}
use Rattle.dap_profile.specs.declared.profile.Want.{Want}

-- A row in the definitions.
pub record ProfileRow : Type 0 where
  pub number : ℕ
  pub kind : Option Kind
  pub name : Option (List ℕ)
  pub place : List PlaceStep
  pub want : Want
  pub needed : Bool

-- The row of the definitions that a row of the program represents.
abbrev pub row_of : Row → ProfileRow
row_of r = record {
  number = r.number;
  kind = r.kind;
  name = option_map (λ n. n.now) r.name;
  place = steps_of r.place;
  want = r.want;
  needed = r.needed;
}
