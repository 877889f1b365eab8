-- Labels of items that answer earlier items. They are computed from the labels of the answered
-- items.
use Rattle.std.specs.{Prelude.{◌≡◌, Bool, true, false, ◌⊎◌, List, map}, List.filter}
use Rattle.dap_order.specs.{Swaps.NoneFree, Labels.{Labels, label}}

-- `answered_by x y`: y answers x. `key` computes the label of an item from the labels of the items
-- that it answers and from its own label; `less` is the order of these labels.
pub record Answering (X L K : Type 0) : Type 0 where
  pub answered_by : X → X → Bool
  pub key : X → List L → L → K
  pub less : K → K → Bool

module _ {X L K : Type 0} (s : Labels X L) (a : Answering X L K) where
  -- The labels of the earlier items that x answers, in order.
  abbrev pub answered : List X → X → List L
  answered before x = map (λ y. y.label) (filter (λ y. a.answered_by y.item x) (label s before))

  abbrev pub answering_labels : Labels X K
  answering_labels = record {
    free = s.free;
    less = a.less;
    label_of = λ before x. a.key x (answered before x) (s.label_of before x);
  }

  -- No item is free with an item that it answers, and no two items that it answers are free with
  -- each other. The labels are strictly ordered, and free items have different ones.
  pub record IsAnswering : Type 0 where
    pub not_free : (x y : X) → a.answered_by x y ≡ true → s.free x y ≡ false
    pub one_answered : (x : X) → NoneFree s.free (λ y. a.answered_by y x)
    pub less_itself : (k : K) → a.less k k ≡ true → ⊥
    pub less_on : (k l m : K) → a.less k l ≡ true → a.less l m ≡ true → a.less k m ≡ true
    pub apart : (before : List X) (x y : X) → s.free x y ≡ true
        → (a.less (answering_labels.label_of before x) (answering_labels.label_of before y) ≡ true)
        ⊎ (a.less (answering_labels.label_of before y) (answering_labels.label_of before x) ≡ true)
