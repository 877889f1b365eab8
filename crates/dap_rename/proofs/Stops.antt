-- The messages that are stops. Skeletons determine this.
use Rattle.std.proofs.Common.{◌≡◌, ℕ, true, false, cond, ◌&&◌, List, Option, Some, codes}
use Rattle.std.proofs.Common.{refl, sym, ◌∙◌, ap, ap₂, subst}
use Rattle.std.proofs.lemmas.Bool.Decides.{same_from_decides}
use Rattle.std.specs.Cmp.Lexicographic.{bytes_decides}
use Rattle.std.specs.Str.{bytes_eq}
use Rattle.dap_tree.specs.Doc.{Doc, text, get}
use Rattle.dap_tree.specs.Ids.{skeleton}
use Rattle.dap_profile.specs.declared.profile.Kind.{Kind}
use Rattle.dap_profile.specs.declared.profile.Kind.TheVariants.{Request, Response, Event}
use Rattle.dap_message.specs.Envelope.{kind_of, name_of, text_value}
use Rattle.dap_message.specs.Message.{Sent}
use Rattle.dap_message.specs.Rows.{is_of_kind, is_text, name_key, type_name}
use Rattle.dap_message.proofs.Shapes.{text-shape, skeleton_keeps}
use Rattle.dap_rename.specs.Laws.{ModeIffRenaming}
use Rattle.dap_rename.specs.Modes.{is_stopped}
use Rattle.dap_rename.specs.declared.mode.Mode.TheVariants.{Whole, PerStop}
use Rattle.dap_rename.proofs.Occurrences.{docs_alike}

-- ---- determined by skeletons

text_alike : (w k : List ℕ) (d e : Doc) → skeleton d ≡ skeleton e
    → is_text w (get k d) ≡ is_text w (get k e)
text_alike w k d e h =
    sym (text-shape skeleton skeleton_keeps w k d) ∙ ap (λ t. is_text w (get k t)) h
    ∙ text-shape skeleton skeleton_keeps w k e

stopped_alike : (m n : Sent) → skeleton m.doc ≡ skeleton n.doc → is_stopped m ≡ is_stopped n
unfolding is_stopped
stopped_alike m n h =
    ap₂ (λ a b. a && b) (text_alike (type_name Event) (codes "type") m.doc n.doc h)
    (text_alike (codes "stopped") (name_key Event) m.doc n.doc h)

pub mode_is_told : ModeIffRenaming
mode_is_told Whole m n h = refl
mode_is_told PerStop m n h = ap (λ b. cond b 1 0) (stopped_alike m n (docs_alike m n h))

-- ---- determined by the kind and the name of a message

text_told : (w : List ℕ) (o : Option Doc) (s : List ℕ) → text_value o ≡ Some s
    → is_text w o ≡ bytes_eq w s
text_told w (Some (text t)) s h = let e : t ≡ s = cc in ap (bytes_eq w) e
text_told w o s h = absurd cc

turned : (a b : List ℕ) → bytes_eq a b ≡ bytes_eq b a
turned a b =
    same_from_decides {P = a ≡ b} (bytes_eq a b) (bytes_eq b a) (bytes_decides a b)
    ((λ h. sym ((bytes_decides b a).0 h)), (λ e. (bytes_decides b a).1 (sym e)))

-- an event with this name
pub named_event : (m : Sent) (s : List ℕ) → Event ≡ kind_of m.doc → is_of_kind Event m.doc ≡ true
    → name_of m.doc ≡ Some s → is_stopped m ≡ bytes_eq s (codes "stopped")
unfolding is_stopped
named_event m s same reported named =
    let e : text_value (get (name_key Event) m.doc) ≡ Some s =
    subst (λ k. text_value (get (name_key k) m.doc) ≡ Some s) (sym same) named in
    ap (λ b. b && is_text (codes "stopped") (get (name_key Event) m.doc)) reported
    ∙ text_told (codes "stopped") (get (name_key Event) m.doc) s e ∙ turned (codes "stopped") s

other_text : (w v : List ℕ) (o : Option Doc) → bytes_eq v w ≡ false → is_text w o ≡ true
    → is_text v o ≡ false
other_text w v (Some (text t)) f h =
    subst (λ u. bytes_eq v u ≡ false) ((bytes_decides w t).0 h) f
other_text w v o f h = absurd cc

-- a message of another kind
pub other_event : (m : Sent) (k : Kind) → is_of_kind k m.doc ≡ true → (k ≡ Event → ⊥)
    → is_stopped m ≡ false
unfolding is_stopped
other_event m k reported apart =
    ap (λ b. b && is_text (codes "stopped") (get (name_key Event) m.doc))
    (other_text (type_name k) (type_name Event) (get (codes "type") m.doc) (other_name k apart)
    reported)
  where
    other_name : (k : Kind) → (k ≡ Event → ⊥) → bytes_eq (type_name Event) (type_name k) ≡ false
    other_name Request h = refl
    other_name Response h = refl
    other_name Event h = absurd (h refl)
