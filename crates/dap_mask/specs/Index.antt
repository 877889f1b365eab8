-- The rules that may apply to messages of a kind and a name, by their positions in the list of all
-- rules.
use Rattle.std.specs.Prelude.{◌≡◌, ℕ, suc, Bool, true, false, cond, ◌&&◌, List, [], ◌∷◌, ◌++◌}
use Rattle.std.specs.Prelude.{Option, Some, None, option_map, unwrap_or, bytes_eq, String}
use Rattle.std.specs.{BTreeMap.{BTreeMap, get_by_text}, List.{AllByRecursion, slice_get}}
use Rattle.std.specs.{Option.option_to_list, declared.alloc.Global.Global, declared.vec.Vec.Vec}
use Rattle.dap_tree.specs.Doc.{Doc, text, get}
use Rattle.dap_message.specs.Rows.{is_of_kind, name_key}
use Rattle.dap_profile.specs.declared.profile.Kind.{Kind, TheVariants.{Request, Response, Event}}
use Rattle.dap_mask.specs.{Masked.mask_by, Rules.{Rule, same_kind}}
use Rattle.dap_mask.specs.declared.index.KindRules.{KindRules}

-- ---- rules and messages

-- A rule with the first name (`None` is any name) applies to messages of the second name. For a
-- message, `None` represents a name that no rule contains.
abbrev pub asks_for : Option (List ℕ) → Option (List ℕ) → Bool
asks_for None n = true
asks_for (Some m) None = false
asks_for (Some m) (Some n) = bytes_eq m n

-- The rule may apply to messages of this kind and name.
abbrev pub may_speak : Kind → Option (List ℕ) → Rule → Bool
may_speak k n r = same_kind r.kind k && asks_for r.name n

-- The kind of a message.
abbrev pub told_kind : Doc → Option Kind
told_kind d =
    cond (is_of_kind Request d) (Some Request)
    (cond (is_of_kind Response d) (Some Response)
    (cond (is_of_kind Event d) (Some Event) None))

abbrev pub text_told : Option Doc → Option (List ℕ)
text_told (Some (text s)) = Some s
text_told _ = None

-- The name of a message of a kind.
abbrev pub told_name : Kind → Doc → Option (List ℕ)
told_name k d = text_told (get (name_key k) d)

-- ---- places

-- The positions, counted from i, of the rules that may apply to such messages.
abbrev pub positions_from : Kind → Option (List ℕ) → ℕ → List Rule → List ℕ
positions_from k n i [] = []
positions_from k n i (r ∷ rs) =
    cond (may_speak k n r) (i ∷ positions_from k n (suc i) rs) (positions_from k n (suc i) rs)

abbrev pub positions : Kind → Option (List ℕ) → List Rule → List ℕ
positions k n rs = positions_from k n 0 rs

-- The rules at these positions.
abbrev pub rules_at : List Rule → List ℕ → List Rule
rules_at rs [] = []
rules_at rs (i ∷ is) = option_to_list (slice_get rs i) ++ rules_at rs is

-- The document after the rule at a position, if there is a rule.
abbrev pub masked_by : Option Rule → Doc → Doc
masked_by None d = d
masked_by (Some r) d = mask_by r d

-- The document after the rules at these positions, applied in order.
abbrev pub masked_at : List Rule → List ℕ → Doc → Doc
masked_at rs [] d = d
masked_at rs (i ∷ is) d = masked_at rs is (masked_by (slice_get rs i) d)

-- ---- the contents of an index

-- The positions that the index stores for each name.
abbrev pub NamePlaces : Type 0
NamePlaces = BTreeMap (String Global) (Vec ℕ Global)

-- The positions that are stored for a name.
abbrev pub kept_for : NamePlaces → List ℕ → Option (List ℕ)
kept_for names n = option_map (λ v. v.items) (get_by_text names n)

-- The positions that are stored for a name are those of the rules that may apply to messages of the
-- kind and that name.
abbrev pub AreRight : Kind → List Rule → NamePlaces → Type 0
AreRight k rs names =
    (n places : List ℕ) → kept_for names n ≡ Some places → places ≡ positions k (Some n) rs

-- The rule may apply to messages of this name if and only if it may apply to messages with a name
-- that no rule contains.
abbrev pub AsksNot : Kind → List ℕ → Rule → Type 0
AsksNot k n r = may_speak k (Some n) r ≡ may_speak k None r

-- A name without stored positions occurs in no rule of the kind.
abbrev pub HasAsked : Kind → List Rule → NamePlaces → Type 0
HasAsked k rs names = (n : List ℕ) → kept_for names n ≡ None → AllByRecursion (AsksNot k n) rs

-- A name without stored positions after adding the rule had none before, and the rule does not
-- contain this name or is of another kind.
abbrev pub AddsName : Kind → Rule → NamePlaces → NamePlaces → Type 0
AddsName k r old new =
    (n : List ℕ) → kept_for new n ≡ None → (kept_for old n ≡ None) × AsksNot k n r

-- The positions that an index returns for a name. `None` is a name that no rule contains.
abbrev pub places_in : KindRules → Option (List ℕ) → List ℕ
places_in x None = x.any.items
places_in x (Some n) = unwrap_or (kept_for x.named n) x.any.items

-- The positions that the index returns for a name are those of the rules that may apply to messages
-- of the kind and that name.
abbrev pub IsIndex : Kind → List Rule → KindRules → Type 0
IsIndex k rs x = (n : Option (List ℕ)) → places_in x n ≡ positions k n rs
