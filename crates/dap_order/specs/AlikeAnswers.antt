-- Two kinds of items with the same freeness, whose classes correspond, and whose items answer
-- corresponding items.
use Rattle.std.specs.Prelude.{◌≡◌, true, ◌⊎◌, List, ◌≢◌, []}
use Rattle.dap_order.specs.{Classes.numbers, Answers.{Answers, answering}, Answering.answered}

-- `AlikeClass` relates classes so that equal ones correspond to equal ones. `InOrder` relates
-- classes that have the same order. Both relate the class of an item that is answered, or that is
-- plain.
pub record HaveAlikeClasses {X Y C D : Type 0} (s : Answers X C) (t : Answers Y D)
    (Alike : X → Y → Type 0) (AlikeClass InOrder : C → D → Type 0) (IsPlain : X → Type 0)
    : Type 0 where
  pub same_free : (x y : X) (u v : Y) → Alike x u → Alike y v
      → s.classes.free x y ≡ t.classes.free u v
  pub same_answered_by : (x y : X) (u v : Y) → Alike x u → Alike y v
      → s.answered_by x y ≡ t.answered_by u v
  pub class : (x : X) (u : Y) → Alike x u → AlikeClass (s.classes.class x) (t.classes.class u)
  pub same_same : (a b : C) (c d : D) → AlikeClass a c → AlikeClass b d
      → s.classes.same a b ≡ t.classes.same c d
  pub same_less : (a b : C) (c d : D) → InOrder a c → InOrder b d
      → s.classes.less a b ≡ t.classes.less c d
  pub answered_in_order : (x y : X) (u : Y) → Alike x u → s.answered_by x y ≡ true
      → InOrder (s.classes.class x) (t.classes.class u)
  pub plain_in_order : (x : X) (u : Y) → Alike x u → IsPlain x
      → InOrder (s.classes.class x) (t.classes.class u)

-- The item is plain, or it answers an item before it.
abbrev pub IsPlainOrAnswer : {X C : Type 0} → Answers X C → (X → Type 0) → List X → X → Type 0
IsPlainOrAnswer s IsPlain before x =
    IsPlain x ⊎ (answered (numbers s.classes) (answering s) before x ≢ [])
