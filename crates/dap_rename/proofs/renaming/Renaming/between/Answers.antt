use Rattle.std.proofs.Common.{rules, ◌≡◌, ◌≤◌, ◌<◌, ◌∙◌, [], sym, ap, subst, length, take}
use Rattle.std.proofs.Common.{true≢false}
use Rattle.std.specs.List.{flat_map}
use Rattle.dap_rename.specs.Messages.{classes_of_sort}
use Rattle.dap_rename.specs.Modes.{stop_in}
use Rattle.dap_rename.specs.Names.{RepresentsWith, mode_of, numbers_at, stops_of}
use Rattle.dap_rename.specs.Pairs.{entries, equal_names}
use Rattle.dap_rename.specs.Sorts.{all_sorts}
use Rattle.dap_rename.proofs.PairFaults.{no_entries, no_names, places_equal, sort_step}
use Rattle.dap_rename.proofs.PairFaults.{sorts_ended}
use Rattle.dap_rename.proofs.renaming.Renaming.between.Goals as goal

pub loop-sort-preserved : goal.loop-sort-preserved
loop-sort-preserved g c =
    let numbers = g.T.NameTable.numbers in
    let within : c.loop-sort.sort-index < length all_sorts = search rules in
    sort_step (stops_of c.args.from.now) all_sorts c.loop-sort.sort-index _
    (numbers_at numbers c.args.from.now) (numbers_at numbers c.args.to.now)
    (entries c.loop-sort.pairs.items) (entries c.add_sort.new.pairs.items) within
    c.loop-sort.invariant c.in_ok-add_sort.ensures.added

pub returns-in_err-indexed-clause-empty : goal.returns-in_err-indexed-clause-empty
returns-in_err-indexed-clause-empty g c none =
    let numbers = g.T.NameTable.numbers in
    let from = c.args.from.now in
    let classes = flat_map (classes_of_sort (stops_of from)) (take c.loop-sort.sort-index all_sorts)
    in
    let empty : c.loop-sort.pairs.items ≡ [] =
    no_entries c.loop-sort.pairs.items (c.loop-sort.invariant
    ∙ no_names classes (numbers_at numbers from) (numbers_at numbers c.args.to.now) none) in
    absurd (true≢false (sym (c.in_err-indexed.ensures.empty empty)))

pub returns-clause-represents : goal.returns-clause-represents
returns-clause-represents g c ms ns h k =
    let numbers = g.T.NameTable.numbers in
    let limit = g.T.NameTable.limit in
    let from = c.args.from.now in
    let to = c.args.to.now in
    let ended : length all_sorts ≤ c.loop-sort.sort-index = search rules in
    let e : entries c.loop-sort.pairs.items
    ≡ equal_names (stops_of from) (numbers_at numbers from) (numbers_at numbers to) =
    sorts_ended (stops_of from) all_sorts c.loop-sort.sort-index (numbers_at numbers from)
    (numbers_at numbers to) (entries c.loop-sort.pairs.items) ended c.loop-sort.invariant in
    let other : RepresentsWith (stop_in (mode_of from)) numbers limit to ns =
    subst (λ m. RepresentsWith (stop_in m) numbers limit to ns) (sym c.requires.mode) k in
    ap entries c.in_ok-indexed.ensures.pairs ∙ e
    ∙ places_equal (stop_in (mode_of from)) (stops_of from) ms ns (numbers_at numbers from)
    (numbers_at numbers to) h.stops h.classes other.classes
