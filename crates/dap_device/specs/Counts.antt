-- The models of the readers and writers over those of std: the number of bytes delivered, whether a
-- flush is due, and the number of failed calls.
use Rattle.std.specs.Prelude.{ℕ, Bool}

pub record SourceCounts : Type 0 where
  pub given : ℕ
  pub failures : ℕ

pub record SinkCounts : Type 0 where
  pub unflushed : Bool
  pub failures : ℕ
