use Rattle.std.proofs.Common.{◌≡◌, ◌∙◌, ap, subst, sym, length, true, List, ◌++◌, ◌∷◌, []}
use Rattle.std.proofs.lemmas.Result.{IfOk-weaker, on_ok_weaker}
use Rattle.dap_tree.specs.Ids.{ids, sorts_of}
use Rattle.dap_message.specs.Message.{Sent}
use Rattle.dap_message.specs.Numbers.{are_proper, renumbered}
use Rattle.dap_rename.specs.Messages.{HasFewIds, IsRenamed, with_numbers}
use Rattle.dap_rename.specs.Modes.{stop_in}
use Rattle.dap_rename.specs.Names.{Represents, RepresentsWith, AreNamed, limit_in, mode_of}
use Rattle.dap_rename.specs.Tables.{lists, added_all, names_from, limits, AllFit, SomeExceedsLimit}
use Rattle.dap_rename.proofs.TableContents.{count_names, names_proper, renamed_with, stand_lists}
use Rattle.dap_rename.proofs.TableContents.{stand_next, few_next, many_next, on_ok_both}
use Rattle.dap_rename.proofs.names.Names.name_message.Goals as goal

pub returns-clause-renamed : goal.returns-clause-renamed
returns-clause-renamed g c =
    let m = g.M.AnyMessage.sent c.args.message.now in
    let numbers = g.T.NameTable.numbers in
    let limit = g.T.NameTable.limit in
    let old = c.args.self.now in
    let stop = stop_in (mode_of old) in
    let held = lists numbers old.tables in
    let found : c.as_slice.result.now ≡ ids m.doc =
    c.as_slice.ensures.value ∙ c.in-Ok.ensures.ok
    ∙ ap (λ xs. xs ++ ids m.doc) c.new-ids.ensures.items in
    IfOk-weaker c.name_ids.result (λ v. v.items ≡ names_from held c.as_slice.result.now)
    (λ v. (ms : List Sent) → Represents numbers limit old ms
    → IsRenamed stop ms m (with_numbers m v.items))
    (λ v named ms h. renamed_with stop ms m held v.items (named ∙ ap (names_from held) found)
    (stand_lists stop numbers limit old ms h)) c.name_ids.ensures.named

pub returns-clause-count : goal.returns-clause-count
returns-clause-count g c =
    let m = g.M.AnyMessage.sent c.args.message.now in
    let held = lists g.T.NameTable.numbers c.args.self.now.tables in
    let found : c.as_slice.result.now ≡ ids m.doc =
    c.as_slice.ensures.value ∙ c.in-Ok.ensures.ok
    ∙ ap (λ xs. xs ++ ids m.doc) c.new-ids.ensures.items in
    IfOk-weaker c.name_ids.result (λ v. v.items ≡ names_from held c.as_slice.result.now)
    (λ v. length v.items ≡ length (ids m.doc))
    (λ v named. ap length (named ∙ ap (names_from held) found) ∙ count_names held (ids m.doc))
    c.name_ids.ensures.named

pub returns-clause-proper : goal.returns-clause-proper
returns-clause-proper g c =
    let m = g.M.AnyMessage.sent c.args.message.now in
    let held = lists g.T.NameTable.numbers c.args.self.now.tables in
    let found : c.as_slice.result.now ≡ ids m.doc =
    c.as_slice.ensures.value ∙ c.in-Ok.ensures.ok
    ∙ ap (λ xs. xs ++ ids m.doc) c.new-ids.ensures.items in
    IfOk-weaker c.name_ids.result (λ v. v.items ≡ names_from held c.as_slice.result.now)
    (λ v. are_proper (renumbered m.doc v.items) ≡ true)
    (λ v named. ap (λ ns. are_proper (renumbered m.doc ns)) (named ∙ ap (names_from held) found)
    ∙ names_proper (sorts_of (ids m.doc)) held (ids m.doc)) c.name_ids.ensures.named

pub returns-clause-represents : goal.returns-clause-represents
returns-clause-represents g c =
    let m = g.M.AnyMessage.sent c.args.message.now in
    let numbers = g.T.NameTable.numbers in
    let limit = g.T.NameTable.limit in
    let old = c.args.self.now in
    let new = c.name_ids.new.self in
    let held = lists numbers old.tables in
    let allowed = limits limit old.tables in
    let given = c.as_slice.result.now in
    let found : given ≡ ids m.doc =
    c.as_slice.ensures.value ∙ c.in-Ok.ensures.ok
    ∙ ap (λ xs. xs ++ ids m.doc) c.new-ids.ensures.items in
    let b = c.begin_again_behind-stops.result in
    let next : AreNamed numbers old new given b → AllFit allowed (added_all held given)
    → (ms : List Sent) → Represents numbers limit old ms
    → Represents numbers limit new (ms ++ m ∷ []) =
    λ grown fits ms h. subst
    (λ mode. RepresentsWith (stop_in mode) numbers limit new (ms ++ m ∷ []))
    (sym c.name_ids.ensures.mode)
    (stand_next (stop_in (mode_of old)) numbers limit old new ms m b h
    (subst (λ is. AreNamed numbers old new is b) found grown) c.begin_again_behind-stops.ensures
    (subst (λ is. AllFit allowed (added_all held is)) found fits) c.name_ids.ensures.same_limits) in
    on_ok_both c.name_ids.result c.name_ids.ensures.grown c.name_ids.ensures.fits next

pub returns-clause-few : goal.returns-clause-few
returns-clause-few g c =
    let m = g.M.AnyMessage.sent c.args.message.now in
    let numbers = g.T.NameTable.numbers in
    let limit = g.T.NameTable.limit in
    let old = c.args.self.now in
    let stop = stop_in (mode_of old) in
    let held = lists numbers old.tables in
    let allowed = limits limit old.tables in
    let given = c.as_slice.result.now in
    let found : given ≡ ids m.doc =
    c.as_slice.ensures.value ∙ c.in-Ok.ensures.ok
    ∙ ap (λ xs. xs ++ ids m.doc) c.new-ids.ensures.items in
    let next : AllFit allowed (added_all held given) → (ms : List Sent)
    → Represents numbers limit old ms → HasFewIds stop (limit_in limit old) (ms ++ m ∷ []) =
    λ fits ms h. few_next stop numbers limit old ms h m
    (subst (λ is. AllFit allowed (added_all held is)) found fits) in
    on_ok_weaker c.name_ids.result next c.name_ids.ensures.fits

pub returns-clause-full : goal.returns-clause-full
returns-clause-full g c full ms h =
    let m = g.M.AnyMessage.sent c.args.message.now in
    let old = c.args.self.now in
    let held = lists g.T.NameTable.numbers old.tables in
    let allowed = limits g.T.NameTable.limit old.tables in
    let found : c.as_slice.result.now ≡ ids m.doc =
    c.as_slice.ensures.value ∙ c.in-Ok.ensures.ok
    ∙ ap (λ xs. xs ++ ids m.doc) c.new-ids.ensures.items in
    many_next (stop_in (mode_of old)) g.T.NameTable.numbers g.T.NameTable.limit old ms h m
    (subst (λ is. SomeExceedsLimit allowed (added_all held is)) found
    (c.name_ids.ensures.full full))
