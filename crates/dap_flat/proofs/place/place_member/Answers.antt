use Rattle.std.proofs.Common.{◌++◌, ap, ap₂, sym, ◌∙◌}
use Rattle.std.proofs.lemmas.List.{map-append}
use Rattle.dap_flat.specs.Order.{AreBelow}
use Rattle.dap_flat.specs.Pieces.{piece_of, members_pieces}
use Rattle.dap_flat.proofs.Adding.{more_members-pieces}
use Rattle.dap_flat.proofs.Placing.{put_last, ends_then, ends_still}
use Rattle.dap_flat.proofs.place.place_member.Goals as goal

pub returns-then-is_greatest : goal.returns-then-is_greatest
returns-then-is_greatest c before held more ms d is here there shown value ends =
    let k = c.args.name.now in
    let below : AreBelow ms k = ends k c.if-is_greatest.ensures in (
      record {
        more = held ++ more;
        added = is;
        shows =
            map-append piece_of held more ∙ ap₂ (λ xs ys. xs ++ ys) shown value
            ∙ sym (more_members-pieces ms k d) ∙ ap members_pieces (sym (put_last ms k d below));
      },
      ends_then ms k d below,
    )

pub returns : goal.returns
returns c before held more ms d is here there shown value ends = (
  c.in_ok-insert_member.ensures before held more ms d is here there shown value,
  ends_still _ ms c.args.name.now d ends c.if-is_greatest.ensures,
)
