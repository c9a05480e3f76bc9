-- The text that document 01 prints for the valve pack and the goal (0,1), computed by the definition.
use mathlib.Core.Path.{◌≡◌, refl}
use mathlib.Core.Bool.{◌&&◌}
use lib.Dec.{leb, ltb}
use Rattle.bits.specs.Sets.{count_to}
use Rattle.text.specs.Text.{letters, digits, decimal, places, number_line, list_line, text_of}
use Rattle.text.specs.Text.Outcome.{refused_at, follows}

-- the module is the places below 6, the set is 4 and 5
pub valve_text : text_of (follows 4 (λ i. ltb i 6) (λ i. leb 4 i && ltb i 6)) ≡ letters "follows 4\nmodule 6: 0 1 2 3 4 5\nset 2: 4 5\n"
unfolding digits decimal places number_line list_line text_of count_to
valve_text = refl

-- numbers of one, two and four digits; an empty list ends at its colon
pub refused_text : text_of (refused_at 1023) ≡ letters "refused 3 1023\n"
unfolding digits decimal number_line text_of
refused_text = refl

pub empty_text : text_of (follows 0 (λ i. ltb i 0) (λ i. ltb i 0)) ≡ letters "follows 0\nmodule 0:\nset 0:\n"
unfolding digits decimal places number_line list_line text_of count_to
empty_text = refl
