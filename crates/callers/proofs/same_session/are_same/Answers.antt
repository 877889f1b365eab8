use Rattle.callers.proofs.same_session.are_same.Goals as goal

pub returns-clause-reported : goal.returns-clause-reported
returns-clause-reported c =
    let a = c.in_ok-a.ensures.ok.normalises in
    let b = c.in_ok-b.ensures.ok.normalises in
    record {
      messages_a = a.messages;
      messages_b = b.messages;
      accepts_a = a.accepts;
      accepts_b = b.accepts;
      reported = c.same.ensures.recordings c.args.limits c.args.mode c.requires c.args.a.now
          c.args.b.now a b;
    }
