use Rattle.std.proofs.Common.{◌≡◌, [], ◌∷◌, ◌++◌, ◌∙◌, ap, append_assoc, map, subst, sym}
use Rattle.std.proofs.lemmas.List.{map-append}
use Rattle.dap_tree.specs.Json.{text_of}
use Rattle.dap_tree.specs.declared.side.Side.TheVariants.{Adapter}
use Rattle.dap_join.specs.Joined.{event_of, joined_output}
use Rattle.dap_join.specs.JoiningSteps.{Writes, group_shown}
use Rattle.dap_join.proofs.GroupMaps.{Entry}
use Rattle.dap_join.proofs.Written.{writes_both}
use Rattle.dap_join.proofs.writing.Writing.push_groups.Goals as goal

pub loop-category-preserved : goal.loop-category-preserved
loop-category-preserved c =
    let was = c.loop-category.invariant in
    let done = was.done in
    let e : Entry = (c.in-Some.category.now, c.in-Some.group.now) in
    let left = c.next.new.self in
    let content : c.deref.result.now ≡ text_of (event_of (group_shown e)) =
    c.deref.ensures.value ∙ c.in_ok-write_event.ensures
    ∙ ap (λ t. t ++ text_of (event_of (group_shown e))) c.clear.ensures.items in
    let pushed : Writes c.args.limits c.loop-category.self c.push.new.self
    (joined_output (group_shown e) ∷ []) =
    subst (λ t. Writes c.args.limits c.loop-category.self c.push.new.self
    (record { number = c.in-Some.group.now.number; held = (Adapter, t) } ∷ [])) content
    c.in_ok-push.ensures in
    record {
      done = done ++ e ∷ [];
      split = was.split ∙ ap (λ es. done ++ es) c.in-Some.ensures.steps
          ∙ sym (append_assoc done (e ∷ []) left);
      writes = subst (Writes c.args.limits c.args.self.now c.push.new.self)
          (sym (ap (map joined_output) (map-append group_shown done (e ∷ []))
          ∙ map-append joined_output (map group_shown done) (group_shown e ∷ [])))
          (writes_both c.args.limits c.args.self.now c.loop-category.self c.push.new.self
          (map joined_output (map group_shown done)) (joined_output (group_shown e) ∷ [])
          was.writes pushed);
    }
