-- `child_mut` passes its reference on to `lend_child`, and returns what that function lends.
use mathlib.Core.Path.{refl}
use mathlib.Core.List.{List, [], ◌∷◌}
use seplogic.Ra.Ura.{Ura}
use types.Logic.{Logic}
use base.Fraction.{full_share}
use base.Fml.{Lft, ftrue, flft}
use base.Logic.{id⊢, emp}
use mir.Raw.{raw as raw_of}
use mir.Syntax.{named, w8}
use mir.Val.{Val}
use types.Kit.{Item, ‵, raw, ◌⊛◌, some, later, ◌$◌, ◌∵◌, !, qed, done, move, keep, drop, use0, use1}
use types.Kit.{split, join, fjoin, pick, await, suffices, frame}
use types.Run.{enter, addr, stop, no_more, and_then, returns}
use types.ByLocal.{alloc_all, pass_all, free_all, look_at, get, through, sets, lands_as}
use contract.Monad.{fact, fact_i}
use contract.BorrowLft.{◌⊑◌, ⊑_static, ⊑_refl}
use contract.Running.{tables}
use denote.Param.{arg, layout}
use denote.Param.Laws.{Laws, arg_laws, of_field, row_shared}
use denote.Param.Shared.{mut_ref_shared}
use denote.Plain.{UInt}
use denote.Exit.{no, yes}
use denote.Laws.{Is, Lawful, shows}
use denote.Ref.{NamedLft, MutRef, mut_vals, mut_Tells}
use denote.RattleType.{RattleType, owns}
use denote.Signature.{plain, types_at, type_at, mut_ref_to}
use denote.Slice.{ShrSlice, shr_slice_vals, shr_slice_Tells, shr_slice_Lawful}
use denote.Steps.{nothing, peeks}
use denote.Struct.Field.{mut_ref_field}
use denote.Struct.Laws.{mut_ref_laws}
use denote.Such.{Such, such_Tells, such_Lawful}
use denote.Text.{Utf8, StrRefOf}
use denote.Triple.Call.{calls_at}
use denote.Triple.Clauses.{lasts, at_exit}
use denote.Triple.Spec.{triple_of}
use denote.Triple.Table.{framed}
use denote.Triple.Walked.{Stays, stay_dropped, walk_of, ends_at, Goes-spent_ref, Goes-dropped}
use Rattle.std.proofs.raw_atomic.Walks.{proved}
use Rattle.std.proofs.option.Option.TheLaws.{the_row_laws as option_laws}
use Rattle.std.specs.contracts.option.Option
use Rattle.dap_tree.specs.contracts.tree.Tree.{the_row}
use Rattle.dap_tree.specs.contracts.tree.Tree.child_mut as f
use Rattle.dap_tree.specs.contracts.member.lend_child as g
use Rattle.dap_tree.specs.contracts.member.TreeHasMembers.TheImpl.{ghosts, dict}
use Rattle.dap_tree.proofs.member.TreeHasMembers.TheImpl.Met.{passed}
use Rattle.dap_tree.proofs.member.lend_child.Met.{met}
use Rattle.dap_tree.proofs.tree.Tree.TheLaws.{the_row_laws}
use Rattle.dap_tree.proofs.tree.Tree.child_mut.Statement.{statement}
use Rattle.dap_tree.proofs.tree.Tree.child_mut.Code as code

abbrev stayed : Stays f.ended.signature.params f.ended.kept
stayed = (
  stay_dropped (mut_ref_to (0 ∷ []) tt (plain (λ _. the_row))) no,
  (stay_dropped (StrRefOf (1 ∷ []) tt) yes, tt),
)

-- a tree in the form that `lend_child` uses, with the layout that a call passes
abbrev Passed : RattleType
Passed = arg (raw_of (layout the_row)) no the_row

-- the type of a name
text_Lawful : {M : Type 1} {𝓤 : Ura M} (𝓛 : Logic 𝓤) (κ : Lft)
    → Lawful 𝓛 (Such (ShrSlice (named 1) κ (UInt w8)) (λ x. Utf8 x.now) (λ x cs. (tt, tt)))
text_Lawful 𝓛 κ =
    such_Lawful (ShrSlice (named 1) κ (UInt w8)) (λ x. Utf8 x.now) (λ x cs. (tt, tt)) 𝓛
    (shr_slice_Lawful 𝓛 (named 1) κ (UInt w8))

-- the type of the result
result_laws : (κ : Lft) → Laws (Option.the_row (MutRef (named 0) κ the_row))
result_laws κ =
    let a : NamedLft = record { mir = named 0; lft = κ } in
    option_laws (MutRef (named 0) κ the_row)
    (of_field (mut_ref_field a the_row tt) (mut_ref_laws a the_row tt) refl
    (mut_ref_shared a the_row tt (row_shared the_row the_row_laws)))

pub child_mut_spec : {M : Type 1} → statement M
child_mut_spec {M} 𝓤 𝓛 𝓜 𝓡 wired =
    let c = f.clauses 𝓛 𝓜.mem 𝓡.returns in
    proved 𝓛 f.ended stayed c 𝓜 𝓡 (
      Goes-spent_ref 𝓛 2 (0 ∷ []) tt (plain (λ _. the_row)),
      (Goes-dropped 𝓛 2 (StrRefOf (1 ∷ []) tt) yes (λ κs x w. refl), tt),
    )
    f.Key.name code.function (code.unfolded 𝓤 𝓛.H 𝓜 𝓡 wired)
    (λ κs. (mut_vals, (shr_slice_vals, tt)))
    (λ κs. (
      mut_Tells (named 0) κs.0 the_row,
      (
        such_Tells (ShrSlice (named 1) κs.1.0 (UInt w8)) (λ x. Utf8 x.now) (λ x cs. (tt, tt))
            shr_slice_vals (shr_slice_Tells (named 1) κs.1.0 (UInt w8)),
        tt,
      ),
    ))
    (λ κs qs bounds a _ are.
    let W = walk_of 𝓛 f.ended stayed c in
    let vss : List Val × (List Val × Unit {0}) = (mut_vals a.0, (shr_slice_vals a.1.0, tt)) in
    let y : W.Ghost = ((κs, qs, bounds, a, vss), tt) in
    let own : Item 𝓤 = ‵ (flft κs.0 qs.0) in
    let named' : Item 𝓤 = ‵ (flft κs.1.0 qs.1.0) in
    let Answer : RattleType = type_at f.signature.result κs in
    let G = triple_of 𝓛 (g.signature Passed) (g.spec Passed ghosts dict 𝓛 𝓜.mem 𝓡.returns) in
    let z : G.Ghost = (
      (
        (κs.0, (κs.1.0, ([], tt))),
        (qs.0, (qs.1.0, (full_share, tt))),
        (⊑_static κs.0, tt),
        a,
        vss,
      ),
      tt,
    ) in
    qed 𝓛 (((own ⊛ named' ⊛ ‵ ftrue) ⊛ ‵ (owns (types_at f.signature.params κs) a vss)) ∷ ‵ ftrue
    ∷ []) ∵
    split ! $ split ! $ move ! (1 ∷ []) $ split ! $
    -- [the name's token; nothing; self's token; the arguments; nothing]
    use0 𝓛 (‵ (flft [] full_share)) (𝓛.lfts.lft-nil full_share) $ move ! (0 ∷ 2 ∷ []) $ join ! $
    move ! (1 ∷ 0 ∷ []) $ join ! $ move ! (1 ∷ 0 ∷ []) $ join ! $ join ! $
    use0 𝓛 (raw (fact 𝓤 ([] ⊑ the_row.lives))) (fact_i 𝓤 _ (emp 𝓤) (⊑_refl [])) $ move ! (0 ∷ 2
    ∷ []) $ join ! $ move ! (1 ∷ 0 ∷ []) $ join ! $
    use1 𝓛 (raw (G.pre z)) (id⊢ 𝓤 _) $
    -- [the precondition of the call; the locals]
    enter ! _ _ _ _ _ $ alloc_all !
    (λ l. pass_all ! refl ((tt, tt), (text_Lawful 𝓛 κs.1.0).typed a.1.0 vss.1.0 are.1.0) $
    sets ! (addr ! (through ! refl (stop !))) refl (tt, tt) $
    calls_at ! (framed 𝓤 𝓛.H 𝓜 (tables 𝓤 𝓛.H 𝓜 𝓡 𝓡.env)) G
    (met 𝓤 𝓛 𝓜 𝓡 (code.calls-dap_tree::member::lend_child 𝓡.env wired) Passed
    (arg_laws (raw_of (layout the_row)) no the_row the_row_laws refl) ghosts dict
    (passed 𝓡.env (code.calls-dap_tree::member::TreeHasMembers::lend_members 𝓡.env wired) M 𝓤 𝓛
    𝓜 𝓡)) z
    (and_then ! (get ! refl) (and_then ! (get ! refl) (no_more !))) (λ v.
    use1 𝓛 (later
    (some (λ (r : Answer.Denot).
    ((own ⊛ named' ⊛ ‵ (flft [] full_share) ⊛ ‵ ftrue) ⊛ ‵ (Answer.own_val r (v ∷ [])))
    ⊛ some (λ (ws : Unit {0}
    × (Unit {0} × Unit {0})). ‵
    (lasts (g.ended Passed ghosts dict) (κs.0, (κs.1.0, ([], tt))) a ws) ⊛ raw
    ((c κs a).ensures tt r (at_exit f.ended κs a (tt, (tt, tt)))))))) (id⊢ 𝓤 _) $
    await ! tt $ pick !
    (λ r. split ! $ split ! $ move ! (1 ∷ []) $ peeks ! Answer (Is Answer) (shows 𝓛 Answer) r (v
    ∷ []) (λ is.
    let good = (((result_laws κs.0).lawful 𝓛).typed r (v ∷ []) is).0 in
    -- [the result; the tokens; the last values and the `ensures`; the locals]
    move ! (2 ∷ []) $ pick ! (λ ws. split ! $ drop ! $
    lands_as ! refl refl good $ returns ! (look_at ! 0 refl) $ free_all ! refl $
    -- [the `ensures`; the result; the tokens]
    move ! (2 ∷ []) $ split ! $ move ! (1 ∷ []) $ split ! $ move ! (1 ∷ []) $ split ! $ drop ! $
    move ! (1 ∷ 0 ∷ []) $ join ! $ move ! (1 ∷ 0 ∷ []) $ join ! $ keep ! (0 ∷ 2 ∷ 1 ∷ []) $
    suffices ! _ (ends_at 𝓛 f.ended stayed c y v r (tt, (tt, tt)) (tt, (tt, tt))) $
    nothing ! $ nothing ! $ fjoin ! $ nothing ! $ fjoin ! $ move ! (0 ∷ 2 ∷ []) $ join ! $ move ! (1
    ∷ 0 ∷ []) $ join ! $ frame ! $ done !))))))
