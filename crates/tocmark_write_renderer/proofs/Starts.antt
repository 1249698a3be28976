-- Where the openings ended, the text may be cut.
use Rattle.std.proofs.Common.{◌≡◌, ap, sym, subst, ℕ, Bool, true, false, if◌then◌else◌, Option, Some, None, List, [], ◌∷◌, ◌++◌, IfSome, OnOk, OnErr, Result, Ok, Err, unwrap_or, take, string_bytes}
use Rattle.std.specs.declared.alloc.AllocError.{AllocError}
use Rattle.std.specs.Str.{IsUtf8}
use Rattle.tocmark_write_containers.specs.Nesting.{Nesting}
use Rattle.tocmark_spelling.specs.Kinds.{is_cell, is_table}
use Rattle.tocmark_spelling.specs.Page.{Path}
use Rattle.tocmark_spelling.specs.Places.{widened, widened_level, with_header, with_width}
use Rattle.tocmark_write_renderer.specs.RendererOf.{AreCut, Fits}
use Rattle.tocmark_write_renderer.specs.declared.renderer.Renderer.TheInside.{Inside}
use Rattle.tocmark_write_renderer.specs.declared.renderer.Snapshot.{Snapshot}
use Rattle.tocmark_write_renderer.proofs.Marks.{cut-grows}

-- in a text that has grown
pub starts-grow : (bs more : List ℕ) (path : Path) → IsUtf8 more → AreCut bs path → AreCut (bs ++ more) path
starts-grow bs more [] u h = tt
starts-grow bs more (l ∷ path) u h = (cut-grows bs more l.start u h.0, starts-grow bs more path u h.1)

-- a width that changes changes no opening's end
pub starts-widened : (text : List ℕ) (n : ℕ) (path : Path) → AreCut text path → AreCut text (widened n path)
starts-widened text n [] h = tt
starts-widened text n (l ∷ path) h = by (is_cell l.tag) (starts-widened text n path h.1)
  where
    by : (b : Bool) → AreCut text (widened n path) → AreCut text (if b then widened_level n l ∷ path else l ∷ widened n path)
    by true below = h
    by false below = (h.0, below)

pub starts-header : (text : List ℕ) (n : ℕ) (path : Path) → AreCut text path → AreCut text (with_header n path)
starts-header text n [] h = tt
starts-header text n (l ∷ path) h = by (is_table l.tag) (starts-header text n path h.1)
  where
    by : (b : Bool) → AreCut text (with_header n path) → AreCut text (if b then record l { content = with_width n l.content } ∷ path else l ∷ with_header n path)
    by true below = h
    by false below = (h.0, below)

-- the same open containers
pub starts-same : (text : List ℕ) (old new : Path) → new ≡ old → AreCut text old → AreCut text new
starts-same text old new e h = subst (AreCut text) (sym e) h

-- a change that may be refused
pub starts-changed : (result : Result (Unit {0}) AllocError) (text : List ℕ) (old new changed : Path) → OnOk result (new ≡ changed) → OnErr result (new ≡ old) → AreCut text changed → AreCut text old → AreCut text new
starts-changed (Ok x) text old new changed ok err h k = starts-same text changed new ok h
starts-changed (Err e) text old new changed ok err h k = starts-same text old new err k

-- the mark stays where the containers that it has stay
pub refits : (a : Inside) (c : Nesting) → c.at_mark ≡ a.containers.at_mark → IfSome a.mark (λ m. Fits a m) → IfSome a.mark (λ m. Fits (record a { containers = c }) m)
refits a c e = by a.mark
  where
    by : (o : Option Snapshot) → IfSome o (λ m. Fits a m) → IfSome o (λ m. Fits (record a { containers = c }) m)
    by None f = f
    by (Some m) f = record {
      cut = f.cut;
      references = f.references;
      starts = starts-same (take m.text (string_bytes a.text)) (unwrap_or a.containers.at_mark []) (unwrap_or c.at_mark []) (ap (λ o. unwrap_or o []) e) f.starts;
    }
