-- The paths of the profile: where in a message a row looks.
use Rattle.std.specs.Prelude.{ℕ, List, [], ◌∷◌}
use Rattle.dap_profile.specs.declared.profile.Place.{Place}
use Rattle.dap_profile.specs.declared.profile.Place.TheVariants.{Member, Inner, Element, Part}
use Rattle.dap_profile.specs.declared.profile.Place.TheVariants.{Deep}

-- One step of a path: to the member with a name, or to each element of an array.
pub data PlaceStep : Type 0 where
  named : List ℕ → PlaceStep
  each : PlaceStep

-- The steps of a path, in order. A new form of path needs a line here.
abbrev pub steps_of : Place → List PlaceStep
steps_of (Member a) = named a.now ∷ []
steps_of (Inner a b) = named a.now ∷ named b.now ∷ []
steps_of (Element a b) = named a.now ∷ named b.now ∷ each ∷ []
steps_of (Part a b c) = named a.now ∷ named b.now ∷ each ∷ named c.now ∷ []
steps_of (Deep a b c) = named a.now ∷ named b.now ∷ named c.now ∷ []
