-- What inner functions promise to each other. Only functions that docs/PROMISES.md lists as inner cite this page.
use Rattle.std.specs.Prelude.{◌≡◌, List, ℕ}
use Rattle.text.specs.declared.line.Text.{Text}
use Rattle.text.specs.Buffer.{Wrote}

-- a text with these bytes behind what it had, in the same buffer
pub record Added (bytes : List ℕ) (before after : Text) : Type 0 where
  pub written : Wrote bytes before.out.now before.end after.out.now after.end
  pub same_buffer : after.out.ghost_name ≡ before.out.ghost_name
