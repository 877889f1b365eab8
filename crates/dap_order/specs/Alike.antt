-- Two kinds of items with the same freeness and the same order of keys.
use Rattle.std.specs.{Prelude.{◌≡◌, ⊤, List, [], ◌∷◌, ◌++◌}, List.AllZip}
use Rattle.dap_order.specs.{Swaps.Swaps, Labels.Labels}

-- Items that are alike have the same freeness and the same order of keys.
pub record AreAlike {X Y : Type 0} (s : Swaps X) (t : Swaps Y) (Alike : X → Y → Type 0)
    : Type 0 where
  pub same_free : (x y : X) (u v : Y) → Alike x u → Alike y v → s.free x y ≡ t.free u v
  pub same_less : (x y : X) (u v : Y) → Alike x u → Alike y v → s.less x y ≡ t.less u v

-- `Fine` holds for each item of the second list, with all items before it.
abbrev pub EachAfter : {X : Type 0} → (List X → X → Type 0) → List X → List X → Type 0
EachAfter Fine before [] = ⊤
EachAfter Fine before (x ∷ xs) = Fine before x × EachAfter Fine (before ++ x ∷ []) xs

-- Items that are alike have the same freeness, and labels that are alike have the same order. If an
-- item is fine, its label is like that of an item like it, after lists that are alike.
pub record HaveAlikeLabels {X Y L M : Type 0} (s : Labels X L) (t : Labels Y M)
    (Fine : List X → X → Type 0) (Alike : X → Y → Type 0) (AlikeLabel : L → M → Type 0)
    : Type 0 where
  pub same_free : (x y : X) (u v : Y) → Alike x u → Alike y v → s.free x y ≡ t.free u v
  pub same_less : (a b : L) (c d : M) → AlikeLabel a c → AlikeLabel b d → s.less a b ≡ t.less c d
  pub label : (before : List X) (x : X) (other : List Y) (u : Y) → AllZip Alike before other
      → Alike x u → Fine before x → AlikeLabel (s.label_of before x) (t.label_of other u)
