-- Outputs are equal if and only if they represent messages that are the same.
use Rattle.std.proofs.Common.{◌≡◌, ◌↔◌, ℕ, List, sym, ◌∙◌, ap, subst}
use Rattle.dap_rename.specs.Messages.{AreSame, IsNormal}
use Rattle.dap_rename.specs.Modes.{stop_in}
use Rattle.dap_rename.specs.declared.mode.Mode.{Mode}
use Rattle.dap_rename.proofs.Sameness.{normal_is_complete, normal_is_unique}
use Rattle.dap_input.specs.declared.limits.Limits.{Limits}
use Rattle.dap_normalise.specs.Accepting.{text}
use Rattle.dap_normalise.specs.HeldMessages.{HoldTheSame}
use Rattle.dap_input.specs.Limits.{AreSound}
use Rattle.dap_normalise.specs.Normalised.{NormalText, HoldsSome}
use Rattle.dap_normalise.specs.Normalising.{Normalises}
use Rattle.dap_normalise.proofs.NormalFormLaws.{equal_texts, same_texts}

-- Both outputs have the same mode.
module _ (one other : NormalText) (modes : one.mode ≡ other.mode) where
  pub equal_hold : HoldsSome one → one.bytes ≡ other.bytes → HoldTheSame one other
  equal_hold some same =
      let is = some.1.is_normal in (
        some.0,
        some.0,
        some.1,
        record {
          typed = some.1.typed;
          normal = some.1.normal;
          is_normal = subst (λ k. IsNormal (stop_in k) some.0 some.1.normal) modes is;
          text_is = sym same ∙ some.1.text_is;
        },
        normal_is_complete (stop_in one.mode) some.0 some.0 some.1.normal is is,
      )

  pub hold_equal : HoldTheSame one other → one.bytes ≡ other.bytes
  hold_equal h =
      h.2.text_is
      ∙ ap text (normal_is_unique (stop_in one.mode) h.0 h.1 h.2.normal h.3.normal h.4
      h.2.is_normal
      (subst (λ k. IsNormal (stop_in k) h.1 h.3.normal) (sym modes) h.3.is_normal))
      ∙ sym h.3.text_is

pub equal_recordings : (limits : Limits) (mode : Mode) → AreSound limits
    → (bytes others written other : List ℕ) (a : Normalises limits mode bytes written)
    (b : Normalises limits mode others other)
    → (written ≡ other) ↔ AreSame (stop_in mode) a.messages b.messages
equal_recordings limits mode sound bytes others written other a b = (
  equal_texts limits mode sound bytes others written other a b,
  same_texts limits mode sound bytes others written other a b,
)
