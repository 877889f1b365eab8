use Rattle.std.proofs.Common.{◌≡◌, ◌↔◌, ℕ, List, Bool, true, eqb, sym, ◌∙◌, refl}
use Rattle.std.proofs.lemmas.Slice.Eq.{slice_eq-Decides}
use Rattle.std.specs.Cmp.{unsigned_Decides}
use lib.Pointwise.{pointwise}
use Rattle.dap_normalise.proofs.HeldMessages.{equal_hold, hold_equal, equal_recordings}
use Rattle.dap_normalise.proofs.normalised.Normalised.same.Goals as goal

-- what the comparison of the bytes implies for the outputs
reported : (xs ys bytes others : List ℕ) (r : Bool) → r ≡ pointwise eqb xs ys → xs ≡ bytes → ys
    ≡ others
    → (r ≡ true) ↔ (bytes ≡ others)
reported xs ys bytes others r is one two =
    let decides = slice_eq-Decides unsigned_Decides xs ys (pointwise eqb xs ys) refl in (
      (λ yes. sym one ∙ decides.0 (sym is ∙ yes) ∙ two),
      (λ same. is ∙ decides.1 (one ∙ same ∙ sym two)),
    )

pub returns-clause-holds : goal.returns-clause-holds
returns-clause-holds c =
    let so = reported c.bytes.result.now c.bytes-2.result.now c.args.self.now.bytes
    c.args.other.now.bytes
    c.eq.result c.eq.ensures c.bytes.ensures.same c.bytes-2.ensures.same in (
      (λ yes. equal_hold c.args.self.now c.args.other.now c.requires.mode c.bytes.ensures.holds
          (so.0 yes)),
      (λ h. so.1 (hold_equal c.args.self.now c.args.other.now c.requires.mode h)),
    )

pub returns-clause-recordings : goal.returns-clause-recordings
returns-clause-recordings c = λ limits mode sound bytes others a b.
    let so = reported c.bytes.result.now c.bytes-2.result.now c.args.self.now.bytes
    c.args.other.now.bytes
    c.eq.result c.eq.ensures c.bytes.ensures.same c.bytes-2.ensures.same in
    let tells = equal_recordings limits mode sound bytes others
    c.args.self.now.bytes c.args.other.now.bytes a b in
    ((λ yes. tells.0 (so.0 yes)), (λ same. so.1 (tells.1 same)))
