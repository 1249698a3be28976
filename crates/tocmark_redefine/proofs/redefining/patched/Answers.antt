use Rattle.std.proofs.Common.{◌∙◌, ap, ◌++◌, arith, string_bytes, refl}
use Rattle.tocmark_redefine.proofs.Patching.{no_patch, none_apart, one_apart, one_patch}
use Rattle.tocmark_redefine.proofs.redefining.patched.Goals as goal

pub loop-patch-init : goal.loop-patch-init
loop-patch-init c = record { apart = λ h. h; bytes = rw c.new-new.ensures.bytes refl }

pub loop-patch-preserved : goal.loop-patch-preserved
loop-patch-preserved c =
    let text = c.args.text.now in
    let patches = c.args.patches.now in
    let i = c.loop-patch.patch-index in
    let at = c.loop-patch.at in
    let p = c.patch-item.result in
    let cut = c.in-Some.ensures.cases in
    record {
      apart = one_apart text patches i at p c.loop-patch-test.true c.patch-item.is (omega (arith, cut.1)) c.loop-patch.invariant.apart;
      bytes =
          one_patch text patches i at p c.loop-patch-test.true c.patch-item.is (string_bytes c.loop-patch.new) c.in-Some.kept.now (string_bytes c.push_str-in-loop-patch.new.self) _ cut.0
          (
          c.in_ok-push_str-2.ensures.bytes
          ∙ ap (λ xs. xs ++ c.as_str.result.now) c.in_ok-push_str.ensures.bytes
          ∙ ap (λ xs. (string_bytes c.loop-patch.new ++ c.in-Some.kept.now) ++ xs) c.as_str.ensures.value
          )
          c.loop-patch.invariant.bytes;
    }

pub returns : goal.returns
returns c =
    let text = c.args.text.now in
    let patches = c.args.patches.now in
    let cut = c.in-Some-get.ensures.cases in
    record {
      apart = none_apart text patches c.loop-patch.patch-index c.loop-patch.at (omega (arith, c.loop-patch-test.false)) (omega (arith, cut.1)) c.loop-patch.invariant.apart;
      bytes = no_patch text patches c.loop-patch.patch-index c.loop-patch.at (string_bytes c.loop-patch.new) c.in-Some-get.kept.now (string_bytes c.push_str-2.new.self) _ (omega (arith, c.loop-patch-test.false)) cut.0 c.in_ok-push_str-3.ensures.bytes c.loop-patch.invariant.bytes;
    }
