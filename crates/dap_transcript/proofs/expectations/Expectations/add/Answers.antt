use Rattle.std.proofs.Common.{◌≡◌, ◌∷◌, [], ◌∙◌, arith, length-append, w64, to_z, of_z}
use Rattle.std.proofs.lemmas.Int.{to_z-of_z}
use Rattle.dap_transcript.proofs.expectations.Expectations.add.Goals as goal

pub returns : goal.returns
returns c ms m r is =
    let seq = c.args.message.seq in
    let n : to_z w64 (of_z w64 seq) ≡ seq = grind (arith, to_z-of_z) in
    record {
      numbers = c.after-self.ensures ms m r.numbers is.side (n ∙ is.seq);
      client = c.in_ok-add.ensures ms m r.client is r.place;
      adapter = c.in_ok-add-2.ensures ms m r.adapter is r.place;
      place = omega (arith, c.in_ok-next.ensures, r.place, length-append ms (m ∷ []));
    }
