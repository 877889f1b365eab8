-- The nodes of a tree that are appended part by part.
use Rattle.std.proofs.Common.{◌≡◌, List, [], ◌++◌, sym, ap, ◌∙◌, append_assoc, append-nil}
use Rattle.dap_flat.specs.declared.node.Node.{Node}
use Rattle.dap_flat.specs.Pieces.{Piece, Appends}
use Rattle.dap_flat.proofs.Adding.{adds_none, adds_then, adds_same}

-- nodes of all these pieces except the last ones were appended
pub record AppendsUpTo (old new : List Node) (left all : List Piece) : Type 0 where
  pub done : List Piece
  pub appended : Appends old new done
  pub joins : done ++ left ≡ all

pub none_yet : (old : List Node) (left all : List Piece) → left ≡ all → AppendsUpTo old old left all
none_yet old left all same = record { done = []; appended = adds_none old; joins = same }

pub next_part : (old now new : List Node) (ps left behind all : List Piece)
    → left ≡ ps ++ behind → AppendsUpTo old now left all → Appends now new ps
    → AppendsUpTo old new behind all
next_part old now new ps left behind all is f more = record {
  done = f.done ++ ps;
  appended = adds_then old now new f.done ps f.appended more;
  joins = append_assoc f.done ps behind ∙ rw (← is) f.joins;
}

pub all_parts : (old new : List Node) (left most all : List Piece) → left ≡ [] → most ≡ all
    → AppendsUpTo old new left most → Appends old new all
all_parts old new left most all none same f =
    adds_same old new f.done all
    (sym (append-nil f.done) ∙ ap (λ ps. f.done ++ ps) (sym none) ∙ f.joins ∙ same) f.appended
