use Rattle.std.proofs.Common.{◌≡◌}
use Rattle.std.specs.Result.{is_ok}
use Rattle.dap_words.specs.Apart.{are_apart}
use Rattle.dap_words.specs.Words.{pair_of, have_own_texts}
use Rattle.dap_words.proofs.OneMore.{own_more, apart_more}
use Rattle.dap_words.specs.Kept.{pairs_in}
use Rattle.dap_words.proofs.Pushed.{may_follow, pushed_keeps}
use Rattle.dap_words.proofs.word_list.Words.push.Goals as goal

pub invariant_of-self : goal.invariant_of-self
invariant_of-self c =
    let old = c.args.self.now in
    let pairs = pairs_in c.args.self.now in
    let p = pair_of c.args.word in
    let may = may_follow pairs p c.requires in
    record {
      own_texts = pushed_keeps (is_ok c.push.result) old.list.items c.args.word
          c.push.new.self.items c.push.ensures.items have_own_texts old.own_texts
          (own_more pairs p old.own_texts may.0);
      apart = pushed_keeps (is_ok c.push.result) old.list.items c.args.word
          c.push.new.self.items c.push.ensures.items are_apart old.apart
          (apart_more pairs p old.apart may.1);
    }
