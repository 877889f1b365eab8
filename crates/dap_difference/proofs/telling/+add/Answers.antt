use Rattle.std.proofs.Common.{◌≡◌, List, [], ◌∷◌, ◌++◌, ◌+◌, ◌-◌, ◌<◌, map, length, get_or, take}
use Rattle.std.proofs.Common.{drop, sym, ap, ap₂, ◌∙◌}
use Rattle.std.proofs.Common.{Some, None, ◌≤◌, subst, arith, add-one}
use Rattle.dap_tree.specs.Path.{name}
use Rattle.dap_tree.specs.View.{view, items_view, members_view}
use Rattle.dap_tree.proofs.Views.{view-List, view-Object}
use Rattle.dap_difference.specs.Shown.{path_of, shown_differences}
use Rattle.dap_difference.specs.Telling.{are_empty, below, behind, only_a, differences}
use Rattle.dap_difference.specs.Telling.{items_differences, members_differences}
use Rattle.dap_difference.specs.TellingSteps.{PassesLower, HasNoLower, TakesNamed}
use Rattle.dap_difference.specs.declared.difference.Step.TheVariants.{Member, Item}
use Rattle.dap_difference.proofs.TreeSteps.{appended_behind, appended_one, popped, tree_at}
use Rattle.dap_difference.proofs.TreeSteps.{items_both, items_only_a, members_both, members_only_a}
use Rattle.dap_difference.proofs.Empty.{empty_items, empty_members}
use Rattle.dap_difference.proofs.telling.+add.Goals as goal

-- the iteration has an entry, so there are entries
one_next : {A : Type 0} {P : Type 0} (left : List A) (x : A) (xs : List A) → left ≡ []
    → left ≡ x ∷ xs → P
one_next left x xs none next = absurd cc

pub add_items-loop-place-preserved : goal.add_items-loop-place-preserved
add_items-loop-place-preserved t c =
    let i = c.loop-place.place in
    let l = c.loop-place in
    let ds = c.args.items.now.items in
    let es = c.args.others.now.items in
    let root = c.args.path.now.items in
    let item = c.item-item.result in
    let within : i < length ds = omega arith in
    let is : item ≡ get_or ds i item = cc in
    let first = tree_at ds i item within is in
    let rest = items_differences (i + 1) (items_view (drop (i + 1) ds))
    (items_view (drop (i + 1) es)) in
    elim c.match-get.branch [
      | goal.add_items-in-Some+in_ok-push-in-Some+in_ok-add-in-Some w ↦
          let other = w.in-Some.other.now in
          let found = w.in-Some.ensures.lookup in
          let there : i < length es = subst (λ xs. i < length xs) c.deref.ensures.value found.3.0 in
          let second = tree_at es i other there
          (found.1 ∙ ap (λ xs. get_or xs i other) c.deref.ensures.value) in
          let pushed = w.in_ok-push-in-Some.ensures.items in
          let added = w.in_ok-add-in-Some.ensures in
          record {
            told_so_far = ap (λ v. shown_differences v.items ++ map (below (path_of root)) rest)
                w.found-is
                ∙ appended_behind root l.path.items w.push.new.self.items (Item i) l.found.items
                w.add.new.found.items (differences (view item) (view other)) rest l.invariant.path
                pushed added.found
                ∙ ap (λ ys. shown_differences l.found.items ++ map (below (path_of root)) ys)
                (sym (items_both ds es i (i + 1) item other (add-one i) first second))
                ∙ l.invariant.told_so_far;
            path = ap (λ v. v.items) w.path-is
                ∙ popped l.path.items w.add.new.path.items w.pop.new.self.items (Item i)
                (added.path ∙ pushed)
                (w.pop.ensures.rest
                ∙ ap (λ n. take (n - 1) w.add.new.path.items) w.add.new.path.ok.0)
                ∙ l.invariant.path;
          }
      | goal.add_items-in-None+in_ok-add_behind-in-None w ↦
          let past = subst (λ xs. length xs ≤ i) c.deref.ensures.value w.in-None.ensures.lookup.3 in
          let added = w.in_ok-add_behind-in-None.ensures in
          record {
            told_so_far = ap (λ v. shown_differences v.items ++ map (below (path_of root)) rest)
                w.found-is
                ∙ appended_one root l.path.items (Item i) (Some (view item)) None l.found.items
                w.add_behind.new.found.items rest l.invariant.path added.found
                ∙ ap (λ ys. shown_differences l.found.items ++ map (below (path_of root)) ys)
                (sym (items_only_a ds es i (i + 1) item (add-one i) first past))
                ∙ l.invariant.told_so_far;
            path = ap (λ v. v.items) w.path-is ∙ added.path ∙ l.invariant.path;
          }
    ]

pub add_members-loop-name-preserved-in-Some-2 : goal.add_members-loop-name-preserved-in-Some-2
add_members-loop-name-preserved-in-Some-2 t c =
    let l = c.loop-name in
    let root = c.args.path.now.items in
    let key = c.in-Some.name.now in
    let tree = c.in-Some.member.now in
    let other = c.in-Some-2.other.now in
    let more = c.next.new.self in
    let lower = c.add_lower.new in
    let passes = subst
    (λ k. PassesLower k l.path.items l.left lower.left l.found.items lower.found.items)
    c.as_str.ensures.value c.in_ok-add_lower.ensures.found in
    let taken = subst (TakesNamed c.as_str-in-loop-name.result.now lower.left
    c.next_named.new.left) c.in-Some-2.is c.in_ok-other.ensures in
    let pushed = c.in_ok-push-in-Some-2.ensures.items in
    let added = c.in_ok-add-in-Some-2.ensures in
    let at_root = c.in_ok-add_lower.ensures.path ∙ l.invariant.path in
    let rest = members_differences (members_view more) (members_view c.next_named.new.left) in
    let next = appended_behind root lower.path.items c.push.new.self.items
    (Member c.as_str-in-Some-2.result) lower.found.items c.add.new.found.items
    (differences (view tree) (view other)) rest at_root pushed added.found in
    record {
      told_so_far = members_both root l.path.items key taken.0 tree other l.name-iterator more
          l.left lower.left c.next_named.new.left l.found.items lower.found.items
          c.add.new.found.items c.in-Some.ensures.steps l.invariant.path passes
          (taken.1 ∙ c.as_str-in-loop-name.ensures.value) taken.2
          (next ∙ ap (λ k. shown_differences lower.found.items ++ map (below (path_of root))
          (map (behind (name k)) (differences (view tree) (view other)) ++ rest))
          c.as_str-in-Some-2.ensures.value)
          ∙ l.invariant.told_so_far;
      path = popped lower.path.items c.add.new.path.items c.pop.new.self.items
          (Member c.as_str-in-Some-2.result) (added.path ∙ pushed)
          (c.pop.ensures.rest
          ∙ ap (λ n. take (n - 1) c.add.new.path.items) c.add.new.path.ok.0)
          ∙ at_root;
      none = λ gone. one_next l.name-iterator _ _ (l.invariant.none gone) c.in-Some.ensures.steps;
      all_left = λ gone.
          one_next l.name-iterator _ _ (l.invariant.none gone) c.in-Some.ensures.steps;
    }

pub add_members-loop-name-preserved : goal.add_members-loop-name-preserved
add_members-loop-name-preserved t c =
    let l = c.loop-name in
    let root = c.args.path.now.items in
    let key = c.in-Some.name.now in
    let tree = c.in-Some.member.now in
    let more = c.next.new.self in
    let lower = c.add_lower.new in
    let passes = subst
    (λ k. PassesLower k l.path.items l.left lower.left l.found.items lower.found.items)
    c.as_str.ensures.value c.in_ok-add_lower.ensures.found in
    let low = subst (λ k. HasNoLower k (members_view lower.left)) c.as_str.ensures.value
    c.in_ok-add_lower.ensures.none in
    let taken = subst (TakesNamed c.as_str-in-loop-name.result.now lower.left
    c.next_named.new.left) c.in-None-2.is c.in_ok-other.ensures in
    let none = subst (λ k. TakesNamed k lower.left c.next_named.new.left None)
    c.as_str-in-loop-name.ensures.value taken in
    let added = c.in_ok-add_behind-in-None-2.ensures in
    let at_root = c.in_ok-add_lower.ensures.path ∙ l.invariant.path in
    let rest = members_differences (members_view more) (members_view c.next_named.new.left) in
    let next = appended_one root lower.path.items (Member c.as_str-in-None-2.result)
    (Some (view tree)) None lower.found.items c.add_behind.new.found.items rest at_root
    added.found in
    record {
      told_so_far = members_only_a root l.path.items key tree l.name-iterator more l.left
          lower.left c.next_named.new.left l.found.items lower.found.items
          c.add_behind.new.found.items c.in-Some.ensures.steps l.invariant.path passes low none
          (next ∙ ap (λ k. shown_differences lower.found.items ++ map (below (path_of root))
          (only_a (name k) (view tree) ∷ rest)) c.as_str-in-None-2.ensures.value)
          ∙ l.invariant.told_so_far;
      path = added.path ∙ at_root;
      none = λ gone. one_next l.name-iterator _ _ (l.invariant.none gone) c.in-Some.ensures.steps;
      all_left = λ gone.
          one_next l.name-iterator _ _ (l.invariant.none gone) c.in-Some.ensures.steps;
    }

pub add-returns-in-List-b-clause-empty : goal.add-returns-in-List-b-clause-empty
add-returns-in-List-b-clause-empty t c empty =
    let none = empty_items c.in-List.items.items c.in-List-b.others.items
    (ap₂ are_empty (sym (ap view c.in-List.is ∙ view-List c.in-List.items))
    (sym (ap view c.in-List-b.is ∙ view-List c.in-List-b.others)) ∙ empty) in
    c.add_items.ensures.empty none.0 none.1

pub add-returns-in-Object-b-clause-empty : goal.add-returns-in-Object-b-clause-empty
add-returns-in-Object-b-clause-empty t c empty =
    let none = empty_members c.in-Object.members.entries c.in-Object-b.others.entries
    (ap₂ are_empty (sym (ap view c.in-Object.is ∙ view-Object c.in-Object.members))
    (sym (ap view c.in-Object-b.is ∙ view-Object c.in-Object-b.others)) ∙ empty) in
    c.add_members.ensures.empty none.0 none.1
