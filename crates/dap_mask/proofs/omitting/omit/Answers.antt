use Rattle.std.proofs.Common.{◌≡◌, ◌∙◌, true, ap, subst, sym}
use Rattle.dap_tree.specs.Doc.{is_sound, is_ordered}
use Rattle.dap_tree.specs.View.{view}
use Rattle.dap_mask.specs.KeptRules.{omissions_of_mask}
use Rattle.dap_mask.specs.Omissions.{omitted}
use Rattle.dap_mask.proofs.OmittedKeeps.{ordered_omitted, sound_omitted}
use Rattle.dap_mask.proofs.omitting.omit.Goals as goal

pub returns : goal.returns
returns c =
    let os = omissions_of_mask c.args.rules.now in
    let d = view c.args.tree.now in
    let is : view c.omit_all.new.tree ≡ omitted os d =
    c.omit_all.ensures ∙ ap (λ rules. omitted rules d) c.omissions.ensures in
    let back = sym is in
    record {
      omitted = is;
      sound = λ h. subst (λ e. is_sound e ≡ true) back (sound_omitted os d h);
      ordered = λ h. subst (λ e. is_ordered e ≡ true) back (ordered_omitted os d h);
    }
