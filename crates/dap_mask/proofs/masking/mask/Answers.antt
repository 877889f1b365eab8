use Rattle.std.proofs.Common.{◌≡◌, ◌∙◌, true, subst, sym, ap}
use Rattle.dap_tree.specs.Doc.{is_sound, is_ordered}
use Rattle.dap_tree.specs.View.{view}
use Rattle.dap_mask.specs.Ids.{KeepsIds}
use Rattle.dap_mask.specs.KeptRules.{changes_of, dropped_of, mask_of}
use Rattle.dap_mask.specs.Mask.{leaves_out}
use Rattle.dap_mask.specs.Masked.{masked, IsMasked, KeepsElsewhere, HasNoNewPath}
use Rattle.dap_mask.specs.Rules.{is_dropped}
use Rattle.dap_mask.proofs.ByPath.{masked_by_path, one_masked, keeps_others, none_new}
use Rattle.dap_mask.proofs.ByPath.{dropped-masked, ordered-masked, agree_from_equal}
use Rattle.dap_mask.proofs.ByPath.{equal_from_agree}
use Rattle.dap_mask.proofs.Dropping.{stays_in}
use Rattle.dap_mask.proofs.Keeping.{sound_masked}
use Rattle.dap_mask.proofs.LeftIds.{keeps_ids}
use Rattle.dap_mask.proofs.Settled.{masked_once}
use Rattle.dap_mask.proofs.masking.mask.Goals as goal

pub returns : goal.returns
returns c =
    let rules = changes_of c.args.rules.now in
    let dropped = dropped_of c.args.rules.now in
    let mask = mask_of c.args.rules.now in
    let d = view c.args.tree.now in
    let safe = c.args.rules.now.list.safe in
    let is : view c.mask_all.new.tree ≡ masked rules d =
    c.mask_all.ensures in
    let back : masked rules d ≡ view c.mask_all.new.tree = sym is in
    record {
      masked = is;
      places = subst (λ e. IsMasked rules d e) back (masked_by_path rules d safe);
      elsewhere = subst (λ e. KeepsElsewhere rules d e) back (λ p a. keeps_others rules d p safe a);
      none_new = subst (λ e. HasNoNewPath d e) back (λ p n. none_new rules d p safe n);
      ids = subst (λ e. KeepsIds d e) back (keeps_ids rules d safe c.args.rules.now.list.leave);
      one = λ o e h. one_masked rules d e safe o h ∙ back;
      again = λ o. ap (masked rules) is ∙ masked_once rules d safe c.args.rules.now.list.settled o
          ∙ back;
      equal = λ o e q. (
        λ h. agree_from_equal rules d e safe (back ∙ h),
        λ h. is ∙ equal_from_agree rules d e safe q h,
      );
      sound = λ h. subst (λ e. is_sound e ≡ true) back (sound_masked rules d h);
      ordered = λ h. subst (λ e. is_ordered e ≡ true) back (ordered-masked rules d h);
      dropped = ap (is_dropped dropped) is ∙ dropped-masked rules dropped d safe;
      stays = λ h. ap (leaves_out mask) is ∙ stays_in mask d safe c.args.rules.now.list.kept h;
    }
