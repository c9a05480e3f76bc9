-- Bytes written into a buffer.
use Rattle.std.specs.Prelude.{◌≡◌, List, [], ◌∷◌, ℕ, ◌+◌, length, set}

-- the buffer with the bytes put into it, one after the other, from position `at` on
unfoldable pub put : List ℕ → ℕ → List ℕ → List ℕ
put buffer at [] = buffer
put buffer at (b ∷ bytes) = put (set buffer at b) (at + 1) bytes

-- `after` is `before` with the bytes put in from `at` on, and `end` is the position behind them
pub record Wrote (bytes before : List ℕ) (at : ℕ) (after : List ℕ) (end : ℕ) : Type 0 where
  pub behind : end ≡ at + length bytes
  pub buffer : after ≡ put before at bytes
