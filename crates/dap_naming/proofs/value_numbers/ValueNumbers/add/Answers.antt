use Rattle.std.proofs.Common.{◌≡◌, ℕ, List, Bool, true, false, cond, Option, Some, refl, ap, ◌∙◌}
use Rattle.std.proofs.Common.{unwrap_or, bytes_eq, string_bytes}
use Rattle.std.specs.BTreeMap.{get_by_text}
use Rattle.std.proofs.lemmas.Map.Text.{btree_map_updates_text}
use Rattle.dap_naming.proofs.Keys.{get_inserted}
use Rattle.dap_naming.proofs.value_numbers.ValueNumbers.add.Goals as goal

count_updated : (b : Bool) (n : ℕ) (o : Option ℕ)
    → unwrap_or (cond b (Some n) o) 0 ≡ cond b n (unwrap_or o 0)
count_updated true n o = refl
count_updated false n o = refl

pub returns-clause-numbers : goal.returns-clause-numbers
returns-clause-numbers c = λ k.
    get_inserted c.args.self.now.numbers c.insert-2.new.self c.args.key (Some c.args.number)
    c.in_ok-insert-2.ensures.updates k

pub returns-clause-counts : goal.returns-clause-counts
returns-clause-counts c = λ l.
    let old = c.args.self.now.counts in
    ap (λ o. unwrap_or o 0)
    (btree_map_updates_text (string_bytes c.in_ok-from_str.field-0) old c.insert.new.self
    (Some c.args.number) c.in_ok-insert.ensures.updates l)
    ∙ count_updated (bytes_eq (string_bytes c.in_ok-from_str.field-0) l) c.args.number
    (get_by_text old l)
    ∙ ap (λ (s : List ℕ). cond (bytes_eq s l) c.args.number (unwrap_or (get_by_text old l) 0))
    c.in_ok-from_str.ensures.ok
