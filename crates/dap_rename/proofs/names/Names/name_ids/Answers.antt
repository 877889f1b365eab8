use Rattle.std.proofs.Common.{◌≡◌, ◌∙◌, sym, ap, subst, length}
use Rattle.dap_rename.specs.Tables.{lists, AllExtend}
use Rattle.dap_rename.proofs.ListGrowth.{all_begin, counts_fit, lists_cut}
use Rattle.dap_rename.proofs.TableContents.{on_err_told, same_classes}
use Rattle.dap_rename.proofs.names.Names.name_ids.Goals as goal

pub cut-requires : goal.cut-requires
cut-requires g c =
    let held = lists g.T.NameTable.numbers in
    let failed = sym c.is_err.ensures.value ∙ c.if-is_err.true in
    let same : c.begin_again.new.self.tables ≡ c.name_ids.new.self =
    on_err_told c.begin_again.result failed c.begin_again.ensures.tables in
    let begins : AllExtend (held c.args.self.now.tables) (held c.begin_again.new.self.tables) =
    subst (AllExtend (held c.args.self.now.tables))
    (sym (ap held same ∙ c.in_ok-names.ensures.grown))
    (all_begin (held c.args.self.now.tables) c.args.ids.now) in
    counts_fit g.T.NameTable.numbers c.args.self.now.tables c.begin_again.new.self.tables
    c.lengths-lengths.result c.lengths-lengths.ensures begins

pub returns-then-is_err-clause-refused : goal.returns-then-is_err-clause-refused
returns-then-is_err-clause-refused g c =
    let held = lists g.T.NameTable.numbers in
    let failed = sym c.is_err.ensures.value ∙ c.if-is_err.true in
    let same : c.begin_again.new.self.tables ≡ c.name_ids.new.self =
    on_err_told c.begin_again.result failed c.begin_again.ensures.tables in
    let past : c.begin_again.new.self.past.items ≡ c.args.self.now.past.items =
    on_err_told c.begin_again.result failed c.begin_again.ensures.past in
    let begins : AllExtend (held c.args.self.now.tables) (held c.begin_again.new.self.tables) =
    subst (AllExtend (held c.args.self.now.tables))
    (sym (ap held same ∙ c.in_ok-names.ensures.grown))
    (all_begin (held c.args.self.now.tables) c.args.ids.now) in
    let back : held c.cut.new.self ≡ held c.args.self.now.tables =
    lists_cut g.T.NameTable.numbers c.args.self.now.tables c.begin_again.new.self.tables
    c.cut.new.self c.lengths-lengths.result c.lengths-lengths.ensures begins c.cut.ensures.cut in
    record {
      mode = c.begin_again.ensures.mode;
      stops = ap length past;
      classes = same_classes g.T.NameTable.numbers c.args.self.now.tables c.cut.new.self
          c.args.self.now.past.items c.begin_again.new.self.past.items back past;
    }
