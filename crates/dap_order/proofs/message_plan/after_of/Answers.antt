use Rattle.std.proofs.Common.{◌≡◌, ℕ, ◌+◌, inl, inr, List, [], ◌∷◌, ◌++◌, map, length}
use Rattle.std.proofs.Common.{sym, ap, ◌∙◌, subst, arith, get_or, length-append, Vec, Global}
use Rattle.std.proofs.lemmas.Bool.{cases_lt}
use Rattle.std.proofs.lemmas.List.{map-append}
use Rattle.dap_order.specs.Entries.{sent_by}
use Rattle.dap_order.specs.Waits.{are_tied, Covers}
use Rattle.dap_order.proofs.Grouping.{or_old, or_new}
use Rattle.dap_order.proofs.Lists.{len_map}
use Rattle.dap_order.proofs.message_plan.after_of.Goals as goal

abbrev row_of : Vec ℕ Global → List ℕ
row_of v = v.items

pub loop-place-preserved : goal.loop-place-preserved
loop-place-preserved g c =
    let ms = map sent_by c.args.entries.now in
    let after = c.loop-place.after.items in
    let row = c.in_ok-waits_of.field-0 in
    let n = c.loop-place.place in
    let inv = c.loop-place.invariant in
    let rows : map row_of c.push.new.self.items ≡ map row_of after ++ row.items ∷ [] =
    ap (map row_of) c.in_ok-push.ensures.items ∙ map-append row_of after (row ∷ []) in
    let long : length (map row_of after) ≡ n = len_map row_of after ∙ inv.len in
    record {
      len = ap length c.in_ok-push.ensures.items ∙ length-append after (row ∷ [])
          ∙ ap (λ z. z + 1) inv.len;
      covers = λ place below. subst (λ (zs : List (List ℕ)). Covers are_tied ms place
          (get_or zs place [])) (sym rows)
          (elim (cases_lt place n) [
            | inl b ↦ subst (Covers are_tied ms place)
                (sym (or_old (map row_of after) row.items place [] (omega (arith, long))))
                (inv.covers place b)
            | inr b ↦ (
                let at : n ≡ place = omega arith in
                subst (Covers are_tied ms place)
                (sym (or_new (map row_of after) row.items place [] (sym at ∙ sym long)))
                (subst (λ (p : ℕ). Covers are_tied ms p row.items) at
                (c.in_ok-waits_of.ensures ms c.in_ok-earlier.ensures))
                )
          ]);
    }
