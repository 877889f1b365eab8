use Rattle.std.proofs.Common.{◌++◌, ◌∷◌, [], ◌∙◌, ap, map}
use Rattle.dap_device.specs.Calls.{content_of}
use Rattle.dap_device.specs.MemoryFile.{MemoryState}
use Rattle.dap_device.proofs.Past.{elapses_push, map_push}
use Rattle.dap_device.proofs.memory_file.MemoryFileReplaceable.rename.Goals as goal

pub returns-clause-time : goal.returns-clause-time
returns-clause-time c =
    let past = c.self.inside.past.items in
    let pushed = rw (c.unwrap.ensures, c.reserve.ensures.items) at c.push.ensures.items in
    λ known. elapses_push c.args.self.now _
    (ap (map content_of) pushed ∙ map_push past c.take.result
    ∙ ap (λ target. map content_of past ++ content_of target ∷ []) c.take.ensures.value
    ∙ ap (λ (m : MemoryState). m.past ++ m.target ∷ []) c.self.view_is)
