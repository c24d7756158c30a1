-- Two shapes of contract that leave one answer. Assumes nothing.
use mathlib.Core.Path.{◌≡◌, sym, ap, ◌∙◌}

-- it says what the answer is
pub one_answer : {A : Type 0} (x r s : A) → r ≡ x → s ≡ x → r ≡ s
one_answer x r s e f = e ∙ sym f

-- it says what the answer stands for, and the answer can be had back from that
pub one_standing : {A B : Type 0} (of : A → B) (back : B → A) → ((a : A) → back (of a) ≡ a) → (x : B) (r s : A) → of r ≡ x → of s ≡ x → r ≡ s
one_standing of back home x r s e f = sym (home r) ∙ ap back (e ∙ sym f) ∙ home s
