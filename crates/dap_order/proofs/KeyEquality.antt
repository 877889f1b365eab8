-- Keys are equal if and only if they compare as equal.
use Rattle.std.proofs.Common.{◌≡◌, ℕ, ℤ, true, List, Option, sym, ap, ◌∙◌}
use Rattle.std.specs.Option.{option_cmp}
use Rattle.std.specs.Cmp.Lexicographic.{slice_cmp}
use Rattle.std.specs.declared.cmp.Ordering.{Ordering}
use Rattle.std.specs.Ordering.{is_eq, on, ordering_then, nat_cmp, int_cmp}
use Rattle.std.proofs.lemmas.Bool.{and_parts, and_from}
use Rattle.dap_order.specs.Keys.{Key, key_of}
use Rattle.dap_order.specs.Partners.{key_cmp as model_cmp}
use Rattle.dap_order.specs.declared.keys.Key.{Key as ReadKey}
use Rattle.dap_order.proofs.FreeInWords.{one_nat, one_option, one_list, option_itself, nat_itself}
use Rattle.dap_order.proofs.FreeInWords.{list_itself}
use Rattle.dap_order.proofs.RenamedOrder.{equal_then}

abbrev pub key_cmp : ReadKey → ReadKey → Ordering
key_cmp = on key_of model_cmp

abbrev with_parts : ℕ → Option ℤ → List ℕ → Key
with_parts c n t = record { code = c; number = n; name = t }

same_key : (k l : Key) → k.code ≡ l.code → k.number ≡ l.number → k.name ≡ l.name → k ≡ l
same_key k l e f g =
    ap (λ c. with_parts c k.number k.name) e ∙ ap (λ n. with_parts l.code n k.name) f
    ∙ ap (with_parts l.code l.number) g

pub one_key : (k l : ReadKey) → is_eq (key_cmp k l) ≡ true → key_of k ≡ key_of l
one_key k l h =
    let w = and_parts (is_eq (nat_cmp k.code l.code))
    (is_eq (ordering_then (option_cmp int_cmp k.number l.number)
    (slice_cmp nat_cmp k.name.now l.name.now)))
    (sym (equal_then (nat_cmp k.code l.code) (ordering_then (option_cmp int_cmp k.number l.number)
    (slice_cmp nat_cmp k.name.now l.name.now))) ∙ h) in
    let v = and_parts (is_eq (option_cmp int_cmp k.number l.number))
    (is_eq (slice_cmp nat_cmp k.name.now l.name.now))
    (sym (equal_then (option_cmp int_cmp k.number l.number)
    (slice_cmp nat_cmp k.name.now l.name.now)) ∙ w.1) in
    same_key (key_of k) (key_of l) (one_nat k.code l.code w.0)
    (one_option k.number l.number v.0) (one_list k.name.now l.name.now v.1)

pub equal_key : (k l : ReadKey) → key_of k ≡ key_of l → is_eq (key_cmp k l) ≡ true
equal_key k l e =
    let code : k.code ≡ l.code = ap (λ (z : Key). z.code) e in
    let number : k.number ≡ l.number = ap (λ (z : Key). z.number) e in
    let name : k.name.now ≡ l.name.now = ap (λ (z : Key). z.name) e in
    equal_then (nat_cmp k.code l.code) (ordering_then (option_cmp int_cmp k.number l.number)
    (slice_cmp nat_cmp k.name.now l.name.now))
    ∙ and_from _ _
    (ap (λ z. is_eq (nat_cmp k.code z)) (sym code) ∙ nat_itself k.code)
    (equal_then (option_cmp int_cmp k.number l.number) (slice_cmp nat_cmp k.name.now l.name.now)
    ∙ and_from _ _
    (ap (λ (z : Option ℤ). is_eq (option_cmp int_cmp k.number z)) (sym number)
    ∙ option_itself k.number)
    (ap (λ (z : List ℕ). is_eq (slice_cmp nat_cmp k.name.now z)) (sym name)
    ∙ list_itself k.name.now))
