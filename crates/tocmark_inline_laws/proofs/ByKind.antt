-- A byte by what it may begin.
use Rattle.std.proofs.Common.{◌≡◌, ℕ, Bool, true, false, ◌==◌, ◌||◌, if◌then◌else◌, refl, sym, subst, true≢false}
use Rattle.tocmark_read_scan.proofs.PlainTests.{eq_of, both_false}
use Rattle.tocmark_read_inlines.specs.Scan.{is_mark}
use Rattle.tocmark_commonmark.specs.Tokens as kind
use Rattle.tocmark_commonmark.specs.Tokens.{Kind, kind_of, is_other}

-- a byte that begins nothing
pub record Plainly (b : ℕ) : Type 0 where
  pub mark : is_mark b ≡ false
  pub space : (b == 32) ≡ false
  pub feed : (b == 10) ≡ false

-- what holds of each kind with its byte holds of each byte
pub record Each (P : ℕ → Kind → Type 0) : Type 0 where
  pub backslash : P 92 kind.Backslash
  pub ampersand : P 38 kind.Ampersand
  pub backtick : P 96 kind.Backtick
  pub star : P 42 kind.Star
  pub underscore : P 95 kind.Star
  pub opening : P 91 kind.OpenBracket
  pub exclamation : P 33 kind.Exclamation
  pub closing : P 93 kind.CloseBracket
  pub angle : P 60 kind.Angle
  pub space : P 32 kind.Space
  pub feed : P 10 kind.LineFeed
  pub other : (b : ℕ) → Plainly b → P b kind.Other

at_byte : (P : ℕ → Kind → Type 0) (b n : ℕ) (k : Kind) → (b == n) ≡ true → P n k → P b k
at_byte P b n k e h = subst (λ c. P c k) (sym (eq_of b n e)) h

no_mark : (b : ℕ) → (b == 92) ≡ false → (b == 38) ≡ false → (b == 96) ≡ false → ((b == 42) || (b == 95)) ≡ false → (b == 91) ≡ false → (b == 33) ≡ false → (b == 93) ≡ false → (b == 60) ≡ false → (b == 10) ≡ false → is_mark b ≡ false
unfolding is_mark
no_mark b e1 e2 e3 e4 e5 e6 e7 e8 e10 =
    let two = both_false (b == 42) (b == 95) e4 in
    rw (e5, e6, e7, e8, e3, two.0, two.1, e1, e2, e10) refl

pub by_kind : (P : ℕ → Kind → Type 0) → Each P → (b : ℕ) → P b (kind_of b)
by_kind P each b = t92 (b == 92) refl
  where
    t10 : (q : Bool) → (b == 92) ≡ false → (b == 38) ≡ false → (b == 96) ≡ false → ((b == 42) || (b == 95)) ≡ false → (b == 91) ≡ false → (b == 33) ≡ false → (b == 93) ≡ false → (b == 60) ≡ false → (b == 32) ≡ false → (b == 10) ≡ q → P b (if q then kind.LineFeed else kind.Other)
    t10 true e1 e2 e3 e4 e5 e6 e7 e8 e9 e10 = at_byte P b 10 kind.LineFeed e10 each.feed
    t10 false e1 e2 e3 e4 e5 e6 e7 e8 e9 e10 = each.other b (record { mark = no_mark b e1 e2 e3 e4 e5 e6 e7 e8 e10; space = e9; feed = e10 })

    t32 : (o : Bool) → (b == 92) ≡ false → (b == 38) ≡ false → (b == 96) ≡ false → ((b == 42) || (b == 95)) ≡ false → (b == 91) ≡ false → (b == 33) ≡ false → (b == 93) ≡ false → (b == 60) ≡ false → (b == 32) ≡ o → P b (if o then kind.Space else (if b == 10 then kind.LineFeed else kind.Other))
    t32 true e1 e2 e3 e4 e5 e6 e7 e8 e9 = at_byte P b 32 kind.Space e9 each.space
    t32 false e1 e2 e3 e4 e5 e6 e7 e8 e9 = t10 (b == 10) e1 e2 e3 e4 e5 e6 e7 e8 e9 refl

    t60 : (n : Bool) → (b == 92) ≡ false → (b == 38) ≡ false → (b == 96) ≡ false → ((b == 42) || (b == 95)) ≡ false → (b == 91) ≡ false → (b == 33) ≡ false → (b == 93) ≡ false → (b == 60) ≡ n → P b (if n then kind.Angle else (if b == 32 then kind.Space else (if b == 10 then kind.LineFeed else kind.Other)))
    t60 true e1 e2 e3 e4 e5 e6 e7 e8 = at_byte P b 60 kind.Angle e8 each.angle
    t60 false e1 e2 e3 e4 e5 e6 e7 e8 = t32 (b == 32) e1 e2 e3 e4 e5 e6 e7 e8 refl

    t93 : (m : Bool) → (b == 92) ≡ false → (b == 38) ≡ false → (b == 96) ≡ false → ((b == 42) || (b == 95)) ≡ false → (b == 91) ≡ false → (b == 33) ≡ false → (b == 93) ≡ m → P b (if m then kind.CloseBracket else (if b == 60 then kind.Angle else (if b == 32 then kind.Space else (if b == 10 then kind.LineFeed else kind.Other))))
    t93 true e1 e2 e3 e4 e5 e6 e7 = at_byte P b 93 kind.CloseBracket e7 each.closing
    t93 false e1 e2 e3 e4 e5 e6 e7 = t60 (b == 60) e1 e2 e3 e4 e5 e6 e7 refl

    t33 : (w : Bool) → (b == 92) ≡ false → (b == 38) ≡ false → (b == 96) ≡ false → ((b == 42) || (b == 95)) ≡ false → (b == 91) ≡ false → (b == 33) ≡ w → P b (if w then kind.Exclamation else (if b == 93 then kind.CloseBracket else (if b == 60 then kind.Angle else (if b == 32 then kind.Space else (if b == 10 then kind.LineFeed else kind.Other)))))
    t33 true e1 e2 e3 e4 e5 e6 = at_byte P b 33 kind.Exclamation e6 each.exclamation
    t33 false e1 e2 e3 e4 e5 e6 = t93 (b == 93) e1 e2 e3 e4 e5 e6 refl

    t91 : (v : Bool) → (b == 92) ≡ false → (b == 38) ≡ false → (b == 96) ≡ false → ((b == 42) || (b == 95)) ≡ false → (b == 91) ≡ v → P b (if v then kind.OpenBracket else (if b == 33 then kind.Exclamation else (if b == 93 then kind.CloseBracket else (if b == 60 then kind.Angle else (if b == 32 then kind.Space else (if b == 10 then kind.LineFeed else kind.Other))))))
    t91 true e1 e2 e3 e4 e5 = at_byte P b 91 kind.OpenBracket e5 each.opening
    t91 false e1 e2 e3 e4 e5 = t33 (b == 33) e1 e2 e3 e4 e5 refl

    star : (x y : Bool) → (b == 42) ≡ x → (b == 95) ≡ y → (x || y) ≡ true → P b kind.Star
    star true y e f h = at_byte P b 42 kind.Star e each.star
    star false true e f h = at_byte P b 95 kind.Star f each.underscore
    star false false e f h = absurd (true≢false (sym h))

    t42 : (u : Bool) → (b == 92) ≡ false → (b == 38) ≡ false → (b == 96) ≡ false → ((b == 42) || (b == 95)) ≡ u → P b (if u then kind.Star else (if b == 91 then kind.OpenBracket else (if b == 33 then kind.Exclamation else (if b == 93 then kind.CloseBracket else (if b == 60 then kind.Angle else (if b == 32 then kind.Space else (if b == 10 then kind.LineFeed else kind.Other)))))))
    t42 true e1 e2 e3 e4 = star (b == 42) (b == 95) refl refl e4
    t42 false e1 e2 e3 e4 = t91 (b == 91) e1 e2 e3 e4 refl

    t96 : (z : Bool) → (b == 92) ≡ false → (b == 38) ≡ false → (b == 96) ≡ z → P b (if z then kind.Backtick else (if (b == 42) || (b == 95) then kind.Star else (if b == 91 then kind.OpenBracket else (if b == 33 then kind.Exclamation else (if b == 93 then kind.CloseBracket else (if b == 60 then kind.Angle else (if b == 32 then kind.Space else (if b == 10 then kind.LineFeed else kind.Other))))))))
    t96 true e1 e2 e3 = at_byte P b 96 kind.Backtick e3 each.backtick
    t96 false e1 e2 e3 = t42 ((b == 42) || (b == 95)) e1 e2 e3 refl

    t38 : (y : Bool) → (b == 92) ≡ false → (b == 38) ≡ y → P b (if y then kind.Ampersand else (if b == 96 then kind.Backtick else (if (b == 42) || (b == 95) then kind.Star else (if b == 91 then kind.OpenBracket else (if b == 33 then kind.Exclamation else (if b == 93 then kind.CloseBracket else (if b == 60 then kind.Angle else (if b == 32 then kind.Space else (if b == 10 then kind.LineFeed else kind.Other)))))))))
    t38 true e1 e2 = at_byte P b 38 kind.Ampersand e2 each.ampersand
    t38 false e1 e2 = t96 (b == 96) e1 e2 refl

    t92 : (x : Bool) → (b == 92) ≡ x → P b (if x then kind.Backslash else (if b == 38 then kind.Ampersand else (if b == 96 then kind.Backtick else (if (b == 42) || (b == 95) then kind.Star else (if b == 91 then kind.OpenBracket else (if b == 33 then kind.Exclamation else (if b == 93 then kind.CloseBracket else (if b == 60 then kind.Angle else (if b == 32 then kind.Space else (if b == 10 then kind.LineFeed else kind.Other))))))))))
    t92 true e1 = at_byte P b 92 kind.Backslash e1 each.backslash
    t92 false e1 = t38 (b == 38) e1 refl
