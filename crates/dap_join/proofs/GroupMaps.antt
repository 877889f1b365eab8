-- A map of groups after an output is joined to it.
use Rattle.std.proofs.Common.{◌≡◌, ℕ, Bool, true, false, List, [], ◌∷◌, ◌++◌, map, Some}
use Rattle.std.proofs.Common.{None, refl, sym, ◌∙◌, ap, bytes_eq, string_bytes}
use Rattle.std.proofs.Common.{string_cmp}
use Rattle.std.proofs.lemmas.Map.Text.{is_eq-slice_cmp}
use Rattle.std.specs.BTreeMap.{insert_entry, is_at}
use Rattle.std.specs.Cmp.Lexicographic.{slice_cmp}
use Rattle.std.specs.Map.{lookup, set_value}
use Rattle.std.specs.Ordering.{is_eq, nat_cmp}
use Rattle.std.specs.declared.cmp.Ordering.{Ordering}
use Rattle.std.specs.declared.cmp.Ordering.TheVariants.{Less, Equal, Greater}
use Rattle.std.specs.Prelude.{String, is_some}
use Rattle.std.specs.declared.alloc.Global.{Global}
use Rattle.dap_join.specs.Joined.{append_text, has_category, insert_group}
use Rattle.dap_join.specs.JoiningSteps.{group_shown}
use Rattle.dap_join.specs.declared.groups.Group.{Group}

abbrev pub Entry : Type 0
Entry = String Global × Group

-- The test by which a map looks a category up.
abbrev pub at_category : List ℕ → String Global → Bool
at_category category = is_at (λ k. slice_cmp nat_cmp category (string_bytes k))

-- The test of a category is that of its bytes.
test_is : (category : List ℕ) (k : String Global) (b : Bool)
    → bytes_eq category (string_bytes k) ≡ b → at_category category k ≡ b
test_is category k b is = is_eq-slice_cmp category (string_bytes k) ∙ is

module _ (category s : List ℕ) (w g : Group) where
  abbrev Appended : List Entry → Type 0
  Appended entries = lookup (at_category category) entries ≡ Some g
      → map group_shown (set_value (at_category category) entries w)
      ≡ append_text category s (map group_shown entries)

  appended_first : w.number ≡ g.number → w.seq ≡ g.seq
      → string_bytes w.text ≡ string_bytes g.text ++ s → (e : Entry) (es : List Entry)
      → Appended es → (b : Bool) → bytes_eq category (string_bytes e.0) ≡ b → Appended (e ∷ es)
  appended_first number seq text e es rest true is found =
      let test = test_is category e.0 true is in
      let same : Some e.1 ≡ Some g = rw test at found in
      let one : e.1 ≡ g = cc in
      rw (test, is, one, number, seq, text) refl
  appended_first number seq text e es rest false is found =
      let test = test_is category e.0 false is in
      rw (test, is) (ap (λ gs. group_shown e ∷ gs) (rest (rw test at found)))

  pub text_appended : w.number ≡ g.number → w.seq ≡ g.seq
      → string_bytes w.text ≡ string_bytes g.text ++ s → (entries : List Entry)
      → Appended entries
  text_appended number seq text [] found = refl
  text_appended number seq text (e ∷ es) found =
      appended_first number seq text e es (text_appended number seq text es)
      (bytes_eq category (string_bytes e.0)) refl found

module _ (category s : List ℕ) where
  abbrev Unchanged : List Entry → Type 0
  Unchanged entries = lookup (at_category category) entries ≡ None
      → map group_shown entries ≡ append_text category s (map group_shown entries)

  unchanged_first : (e : Entry) (es : List Entry) → Unchanged es → (b : Bool)
      → bytes_eq category (string_bytes e.0) ≡ b → Unchanged (e ∷ es)
  unchanged_first e es rest true is none =
      let test = test_is category e.0 true is in
      let clash : Some e.1 ≡ None = rw test at none in
      cc
  unchanged_first e es rest false is none =
      let test = test_is category e.0 false is in
      rw is (ap (λ gs. group_shown e ∷ gs) (rest (rw test at none)))

  pub nothing_appended : (entries : List Entry) → Unchanged entries
  nothing_appended [] none = refl
  nothing_appended (e ∷ es) none =
      unchanged_first e es (nothing_appended es) (bytes_eq category (string_bytes e.0)) refl none

-- Whether a category has a group, by looking it up.
module _ (category : List ℕ) where
  abbrev Found : List Entry → Type 0
  Found entries = is_some (lookup (at_category category) entries)
      ≡ has_category category (map group_shown entries)

  found_first : (e : Entry) (es : List Entry) → Found es → (b : Bool)
      → bytes_eq category (string_bytes e.0) ≡ b → Found (e ∷ es)
  found_first e es rest true is = rw (test_is category e.0 true is, is) refl
  found_first e es rest false is = rw (test_is category e.0 false is, is) rest

  pub category_found : (entries : List Entry) → Found entries
  category_found [] = refl
  category_found (e ∷ es) =
      found_first e es (category_found es) (bytes_eq category (string_bytes e.0)) refl

module _ (k : String Global) (v : Group) where
  abbrev Inserted : List Entry → Type 0
  Inserted entries = has_category (string_bytes k) (map group_shown entries) ≡ false
      → map group_shown (insert_entry string_cmp entries k v)
      ≡ insert_group (group_shown (k, v)) (map group_shown entries)

  not_later : (e : Entry) (es : List Entry) (b : Bool)
      → bytes_eq (string_bytes k) (string_bytes e.0) ≡ b
      → has_category (string_bytes k) (map group_shown (e ∷ es)) ≡ false
      → has_category (string_bytes k) (map group_shown es) ≡ false
  not_later e es true same none = let clash : true ≡ false = rw same at none in cc
  not_later e es false apart none = rw apart at none

  inserted_first : (e : Entry) (es : List Entry) → Inserted es → (o : Ordering)
      → slice_cmp nat_cmp (string_bytes k) (string_bytes e.0) ≡ o → Inserted (e ∷ es)
  inserted_first e es rest Less is none = rw is refl
  inserted_first e es rest Equal is none =
      let same : bytes_eq (string_bytes k) (string_bytes e.0) ≡ true =
      sym (is_eq-slice_cmp (string_bytes k) (string_bytes e.0)) ∙ ap is_eq is in
      let clash : true ≡ false = rw same at none in
      cc
  inserted_first e es rest Greater is none =
      rw is
      (ap (λ gs. group_shown e ∷ gs)
      (rest (not_later e es (bytes_eq (string_bytes k) (string_bytes e.0)) refl none)))

  pub group_inserted : (entries : List Entry) → Inserted entries
  group_inserted [] none = refl
  group_inserted (e ∷ es) none =
      inserted_first e es (group_inserted es)
      (slice_cmp nat_cmp (string_bytes k) (string_bytes e.0)) refl none
