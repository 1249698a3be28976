use Rattle.std.proofs.Common.{ℕ, flat_map, map, ◌++◌, ◌∷◌, ◌∙◌, ap, length, refl, sym}
use Rattle.std.proofs.lemmas.List.{length-map}
use Rattle.tocmark_event.specs.View.{EventView}
use Rattle.tocmark_json.specs.Marshal.{size_bytes, pair_in}
use Rattle.tocmark_json.specs.Marshal.{four}
use Rattle.tocmark_json.proofs.Marshalled.{more_come, all_come}
use Rattle.tocmark_json.proofs.marshalling.push_starts.Goals as goal

pub loop-pair-preserved : goal.loop-pair-preserved
loop-pair-preserved g c =
    let l = c.loop-pair in
    more_come (λ x. size_bytes (pair_in g.T.Words.bytes x).1.0) (λ ys. flat_map size_bytes (map (λ (p : EventView × (ℕ × ℕ)). p.1.0) (map (pair_in g.T.Words.bytes) ys))) (λ x ys. refl) refl c.args.pairs.now l.pair-index c.push_length.new.out.items l.out.items c.push_size.new.out.items l.invariant c.pair-item.result c.loop-pair-test.true c.pair-item.is c.in_ok-push_size.ensures

pub returns : goal.returns
returns g c =
    let l = c.loop-pair in
    all_come (λ x. size_bytes (pair_in g.T.Words.bytes x).1.0) (λ ys. flat_map size_bytes (map (λ (p : EventView × (ℕ × ℕ)). p.1.0) (map (pair_in g.T.Words.bytes) ys))) (λ x ys. refl) refl c.args.pairs.now l.pair-index c.push_length.new.out.items l.out.items l.out.items l.invariant c.args.out.now.items (91 ∷ four (length ((map (λ (p : EventView × (ℕ × ℕ)). p.1.0) (map (pair_in g.T.Words.bytes) c.args.pairs.now))))) c.loop-pair-test.false (c.in_ok-push_length.ensures ∙ ap (λ n. c.args.out.now.items ++ 91 ∷ four n) (sym (length-map (map (pair_in g.T.Words.bytes) c.args.pairs.now) (λ (p : EventView × (ℕ × ℕ)). p.1.0) ∙ length-map c.args.pairs.now (pair_in g.T.Words.bytes))))
