use Rattle.std.proofs.Common.{◌≡◌, ◌↔◌, ℕ, List, Bool, true, eqb, sym, ◌∙◌, subst, refl}
use Rattle.std.proofs.lemmas.Slice.Eq.{slice_eq-Decides}
use Rattle.std.specs.Cmp.{unsigned_Decides}
use lib.Pointwise.{pointwise}
use Rattle.dap_normalise.specs.Normalising.{Normalises}
use Rattle.callers.proofs.golden_file.holds_to.Goals as goal

-- What the comparison of the bytes states about the texts.
equal : (xs text golden : List ℕ) (r : Bool) → r ≡ pointwise eqb xs golden → xs ≡ text
    → (r ≡ true) ↔ (text ≡ golden)
equal xs text golden r is shown =
    let decides = slice_eq-Decides unsigned_Decides xs golden (pointwise eqb xs golden) refl in (
      (λ yes. sym shown ∙ decides.0 (sym is ∙ yes)),
      (λ same. is ∙ decides.1 (shown ∙ same)),
    )

pub returns-clause-held : goal.returns-clause-held
returns-clause-held c =
    let later = c.in_ok-normal.ensures.ok in
    let same = equal c.bytes.result.now c.in_ok-normal.normal.bytes c.args.golden.now c.eq.result
    c.eq.ensures c.bytes.ensures.same in
    record {
      messages = later.normalises.messages;
      accepts = later.normalises.accepts;
      exact = (
        (λ yes. subst (Normalises c.args.limits c.args.mode c.args.later.now) (same.0 yes)
            later.normalises),
        (λ golden. same.1 (c.normal_form_stands.ensures.one_text c.args.limits c.args.mode
            c.requires
            c.args.later.now c.in_ok-normal.normal.bytes c.args.golden.now later.normalises
            golden)),
      );
      tells = λ recording made.
          let tells = later.tells recording c.args.golden.now made in
          ((λ yes. tells.0 (same.0 yes)), (λ carries. same.1 (tells.1 carries)));
    }
