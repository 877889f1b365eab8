-- The cause of the first value that violates a row is the first cause.
use Rattle.std.proofs.Common.{◌≡◌, ℕ, ◌+◌, Bool, true, false, cond, List, [], ◌∷◌, ◌++◌, map, Option}
use Rattle.std.proofs.Common.{Some, None, option_and_then, refl, ap, ap₂, ◌∙◌}
use Rattle.std.proofs.lemmas.List.{map-append}
use Rattle.std.specs.List.{flat_map}
use Rattle.std.specs.Option.{is_some, option_or, option_map_or}
use Rattle.dap_tree.specs.Doc.{Doc, get}
use Rattle.dap_profile.specs.PlaceSteps.{PlaceStep, named, each}
use Rattle.dap_profile.specs.declared.profile.Want.{Want}
use Rattle.dap_message.specs.FirstBreak.{Found, found_in, found_at, first_against, break_at}
use Rattle.dap_message.specs.Places.{is_object, list_of, parts_at}
use Rattle.dap_message.specs.Rows.{cause_against, first_cause, broken_at}
use Rattle.dap_message.specs.declared.broken_rows.Cause.{Cause}

abbrev value : Found → Option Doc
value f = f.1

numbered_values : (i : ℕ) (vs : List (Option Doc)) → map value (map (λ v. (i, v)) vs) ≡ vs
numbered_values i [] = refl
numbered_values i (v ∷ vs) = ap (λ us. v ∷ us) (numbered_values i vs)

element_values : (ps : List PlaceStep) (i : ℕ) (ds : List Doc)
    → map value (found_in ps i ds) ≡ flat_map (parts_at ps) ds
element_values ps i [] = refl
element_values ps i (d ∷ ds) =
    map-append value (map (λ v. (i, v)) (parts_at ps d)) (found_in ps (i + 1) ds)
    ∙ ap₂ (λ us vs. us ++ vs) (numbered_values i (parts_at ps d)) (element_values ps (i + 1) ds)

member_values : (b : Bool) (v : Option Doc)
    → map value (cond b ((0, v) ∷ []) []) ≡ cond b (v ∷ []) []
member_values true v = refl
member_values false v = refl

further_values : (q : List PlaceStep)
    → ((e : Doc) → map value (found_at q e) ≡ parts_at q e) → (o : Option Doc)
    → map value (option_map_or (found_at q) o []) ≡ option_map_or (parts_at q) o []
further_values q same None = refl
further_values q same (Some e) = same e

list_values : (ps : List PlaceStep) (o : Option (List Doc))
    → map value (option_map_or (found_in ps 0) o [])
    ≡ option_map_or (flat_map (parts_at ps)) o []
list_values ps None = refl
list_values ps (Some ds) = element_values ps 0 ds

place_values : (p : List PlaceStep) (d : Doc) → map value (found_at p d) ≡ parts_at p d
place_values [] d = refl
place_values (named k ∷ []) d = member_values (is_object d) (get k d)
place_values (named k ∷ p ∷ ps) d = further_values (p ∷ ps) (place_values (p ∷ ps)) (get k d)
place_values (each ∷ ps) d = list_values ps (list_of d)

chosen : (cause : Found → Option Cause) (c : Option Cause) (f : Found) (rest : Option Found)
    (later : Option Cause) → cause f ≡ c → option_and_then cause rest ≡ later
    → option_and_then cause (cond (is_some c) (Some f) rest) ≡ option_or c later
chosen cause None f rest later same after = after
chosen cause (Some c) f rest later same after = same

first_found : (w : Want) (needed : Bool) (fs : List Found)
    → option_and_then (λ (f : Found). cause_against w needed f.1) (first_against w needed fs)
    ≡ first_cause (map (cause_against w needed) (map value fs))
first_found w needed [] = refl
first_found w needed (f ∷ fs) =
    chosen (λ (g : Found). cause_against w needed g.1) (cause_against w needed f.1) f
    (first_against w needed fs) (first_cause (map (cause_against w needed) (map value fs)))
    refl (first_found w needed fs)

pub cause_of_break : (p : List PlaceStep) (w : Want) (needed : Bool) (d : Doc)
    → option_and_then (λ (f : Found). cause_against w needed f.1) (break_at p w needed d)
    ≡ broken_at p w needed d
cause_of_break p w needed d =
    first_found w needed (found_at p d)
    ∙ ap (λ vs. first_cause (map (cause_against w needed) vs)) (place_values p d)
