use Rattle.std.proofs.Common.{◌≡◌, ap, ◌∙◌, sym, w64, to_z, of_z, arith, ◌++◌, ◌∷◌, [], subst}
use Rattle.std.proofs.lemmas.Int.{to_z-of_z}
use Rattle.dap_tree.specs.Side.{same_side}
use Rattle.dap_tree.specs.declared.side.Side.TheVariants.{Client, Adapter}
use Rattle.dap_transcript.specs.{Expected.numbers_of, Numbers.Counts}
use Rattle.dap_transcript.proofs.NextNumbers.{of_other_side, of_same_side}
use Rattle.dap_transcript.proofs.expected.SideNumbers.after.Goals as goal

pub returns-in-Client : goal.returns-in-Client
returns-in-Client c ms m so_far from number =
    let side = sym from ∙ c.in-Client.is in
    let n : to_z w64 (of_z w64 c.args.seq) ≡ c.args.seq = grind (arith, to_z-of_z) in
    record {
      of_client = subst (Counts c.after.result)
          (ap (λ k. numbers_of Client ms ++ k ∷ []) (n ∙ number)
          ∙ sym (of_same_side Client ms m (ap (same_side Client) side)))
          (c.after.ensures (numbers_of Client ms) so_far.of_client);
      of_adapter = subst (Counts c.args.self.adapter)
          (sym (of_other_side Adapter ms m (ap (same_side Adapter) side))) so_far.of_adapter;
    }

pub returns-in-Adapter : goal.returns-in-Adapter
returns-in-Adapter c ms m so_far from number =
    let side = sym from ∙ c.in-Adapter.is in
    let n : to_z w64 (of_z w64 c.args.seq) ≡ c.args.seq = grind (arith, to_z-of_z) in
    record {
      of_client = subst (Counts c.args.self.client)
          (sym (of_other_side Client ms m (ap (same_side Client) side))) so_far.of_client;
      of_adapter = subst (Counts c.after-in-Adapter.result)
          (ap (λ k. numbers_of Adapter ms ++ k ∷ []) (n ∙ number)
          ∙ sym (of_same_side Adapter ms m (ap (same_side Adapter) side)))
          (c.after-in-Adapter.ensures (numbers_of Adapter ms) so_far.of_adapter);
    }
