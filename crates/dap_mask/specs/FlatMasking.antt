-- Masking the nodes of flat documents in their place (own).
use Rattle.std.specs.Prelude.{◌≡◌, ℕ, zero, suc, Bool, true, false, ◌&&◌, List, [], ◌∷◌, ◌++◌}
use Rattle.std.specs.Prelude.{Option, Some, None}
use Rattle.std.specs.{Prelude.{cond, is_some}, declared.alloc.Global.Global}
use Rattle.std.specs.{declared.vec.Vec.Vec, List.{list_any, slice_get}}
use Rattle.dap_tree.specs.{Doc.Doc, Json.text_of, Path.at}
use Rattle.dap_flat.specs.declared.node.Node.{Node}
use Rattle.dap_flat.specs.Pieces.{Piece, leaf, begin_list, end_list, begin_object, end_object, name}
use Rattle.dap_flat.specs.{Pieces.{pieces, Represents}, Finding.Holds}
use Rattle.dap_flat_message.specs.Marking.{Replaced}
use Rattle.dap_message.specs.Envelope.{text_value}
use Rattle.dap_profile.specs.declared.profile.Kind.{Kind}
use Rattle.dap_words.specs.{Long.long, Uuids.uuid}
use Rattle.dap_mask.specs.{Loose.IsLeftOf, Mask.Mask, Promises.IsContentMasked}
use Rattle.dap_mask.specs.{Categories.CategoryRule, Index.{asks_for, told_kind, told_name}}
use Rattle.dap_mask.specs.Rules.{Rule, blank, category_path, change_text, of_verb, rule_applies}
use Rattle.dap_mask.specs.{RuleSteps.change_at_place, Texts.{digits, hex}}
use Rattle.dap_mask.specs.declared.rules.Verb.{Verb, TheVariants.{Blank, Digits, Hex, Long, Uuid}}

-- ---- the result of masking a content

-- The nodes represent the result of masking the content; `None` for an event that the rules drop.
abbrev pub IsLeftFlat : Mask → List ℕ → Option (Vec Node Global) → Type 0
IsLeftFlat mask bytes None = IsLeftOf mask bytes None
IsLeftFlat mask bytes (Some nodes) =
    (d : Doc) × IsLeftOf mask bytes (Some d) × Represents nodes.items d

-- The canonical text of the masked document comes after the old bytes. For an event that the rules
-- drop, nothing does.
abbrev pub AddsMasked : Mask → List ℕ → Bool → List ℕ → List ℕ → Type 0
AddsMasked mask bytes true old new =
    (d : Doc) × IsLeftOf mask bytes (Some d) × (new ≡ old ++ text_of d)
AddsMasked mask bytes false old new = IsLeftOf mask bytes None × (new ≡ old)

-- The nodes represent the masked form of every document that the content represents, with the words
-- in the place of texts.
abbrev pub IsMaskedFlat : Mask → List ℕ → Vec Node Global → Type 0
IsMaskedFlat mask bytes nodes =
    (d : Doc) × IsContentMasked mask bytes d × Represents nodes.items d

-- ---- the messages to which a rule applies

-- It is the value that the function has for the document that starts there.
abbrev pub IsTold : {X : Type 0} → List Node → ℕ → (Doc → X) → X → Type 0
IsTold ns at tell x = (d : Doc) → Holds ns at d → x ≡ tell d

-- The category of a message; `None` for a message without one.
abbrev pub told_category : Doc → Option (List ℕ)
told_category d = text_value (at category_path d)

-- It is true if and only if the rule applies to messages of this kind, name and category.
abbrev pub AppliesTo : Rule → Kind → Option (List ℕ) → Option (List ℕ) → Bool → Type 0
AppliesTo r k n c result = (d : Doc) → told_kind d ≡ Some k → told_name k d ≡ n
    → told_category d ≡ c → result ≡ rule_applies r d

-- ---- for private clauses: events that are dropped

-- The rule drops the events of this name and category.
abbrev pub asks_for_event : Option (List ℕ) → Option (List ℕ) → CategoryRule → Bool
asks_for_event n t c = asks_for c.name n && asks_for (Some c.category) t

-- ---- for private clauses: rules that apply to a document

abbrev pub is_limited : Option Rule → Bool
is_limited None = false
is_limited (Some r) = is_some r.category

-- A rule at one of these positions applies to the events of one category only.
abbrev pub are_limited : List Rule → List ℕ → Bool
are_limited rs is = list_any (λ i. is_limited (slice_get rs i)) is

-- The category of a message, if a rule at one of these positions has a category.
abbrev pub asked_category : List Rule → List ℕ → Doc → Option (List ℕ)
asked_category rs is d = cond (are_limited rs is) (told_category d) None

-- The document after the change of a rule, if there is a rule for messages of this category.
abbrev pub changed_by : Option (List ℕ) → Option Rule → Doc → Doc
changed_by t None d = d
changed_by t (Some r) d =
    cond (asks_for r.category t) (change_at_place r.place (of_verb r.verb) d) d

-- The document after the changes of the rules at these positions for messages of this category, in
-- order.
abbrev pub changed_at : Option (List ℕ) → List Rule → List ℕ → Doc → Doc
changed_at t rs [] d = d
changed_at t rs (i ∷ is) d = changed_at t rs is (changed_by t (slice_get rs i) d)

-- For a loop: the rules at the remaining positions change the document to the result of all.
abbrev pub AreChanged : Option (List ℕ) → List Rule → List ℕ → List ℕ → List Node → List Node
    → Type 0
AreChanged t rs left all old now = (d : Doc) → Holds old 0 d
    → (e : Doc) × Replaced old now 0 (pieces d) (pieces e)
    × (changed_at t rs left e ≡ changed_at t rs all d)

-- ---- for private clauses: the effect of a rule on one piece

-- The effect of a verb on a string.
abbrev pub squeezed : Verb → List ℕ → List ℕ
squeezed Blank = λ s. []
squeezed Digits = digits
squeezed Hex = hex
squeezed Long = long
squeezed Uuid = uuid

abbrev pub with_text : (List ℕ → List ℕ) → Piece → Piece
with_text f (leaf d) = leaf (change_text f d)
with_text f (begin_list n) = begin_list n
with_text f end_list = end_list
with_text f (begin_object n) = begin_object n
with_text f end_object = end_object
with_text f (name k) = name k

-- The first piece of the blank of a value, whose other pieces are unchanged; `None` for a list or
-- an object that is not empty.
abbrev pub blanked : Piece → Option Piece
blanked (leaf d) = Some (leaf (blank d))
blanked (begin_list zero) = Some (begin_list zero)
blanked (begin_list (suc n)) = None
blanked end_list = Some end_list
blanked (begin_object zero) = Some (begin_object zero)
blanked (begin_object (suc n)) = None
blanked end_object = Some end_object
blanked (name k) = Some (name k)

-- The first piece of a value after a verb, if the other pieces are unchanged.
abbrev pub changed_piece : Verb → Piece → Option Piece
changed_piece Blank p = blanked p
changed_piece Digits p = Some (with_text (squeezed Digits) p)
changed_piece Hex p = Some (with_text (squeezed Hex) p)
changed_piece Long p = Some (with_text (squeezed Long) p)
changed_piece Uuid p = Some (with_text (squeezed Uuid) p)
