-- Texts that are written one behind the other.
use Rattle.std.proofs.Common.{◌≡◌, ◌++◌, ◌∙◌, ℕ, List, ap, append_assoc}

-- a text and two more
pub two : (text one other behind_one behind_both : List ℕ) → behind_one ≡ text ++ one → behind_both ≡ behind_one ++ other
    → behind_both ≡ text ++ (one ++ other)
two text one other behind_one behind_both e f = f ∙ ap (λ z. z ++ other) e ∙ append_assoc text one other

-- a text and three more
pub three : (text one other third behind_one behind_both behind_all : List ℕ) → behind_one ≡ text ++ one → behind_both ≡ behind_one ++ other → behind_all ≡ behind_both ++ third
    → behind_all ≡ text ++ (one ++ other ++ third)
three text one other third behind_one behind_both behind_all e f g =
    two text (one ++ other) third behind_both behind_all (two text one other behind_one behind_both e f) g

-- a text and four more
pub four : (text one other third last behind_one behind_both behind_three behind_all : List ℕ) → behind_one ≡ text ++ one → behind_both ≡ behind_one ++ other
    → behind_three ≡ behind_both ++ third → behind_all ≡ behind_three ++ last → behind_all ≡ text ++ (one ++ other ++ third ++ last)
four text one other third last behind_one behind_both behind_three behind_all e f g h =
    two text (one ++ other ++ third) last behind_three behind_all (three text one other third behind_one behind_both behind_three e f g) h

-- a text and five more
pub five : (text one other third fourth last behind_one behind_both behind_three behind_four behind_all : List ℕ) → behind_one ≡ text ++ one → behind_both ≡ behind_one ++ other
    → behind_three ≡ behind_both ++ third → behind_four ≡ behind_three ++ fourth → behind_all ≡ behind_four ++ last → behind_all ≡ text ++ (one ++ other ++ third ++ fourth ++ last)
five text one other third fourth last behind_one behind_both behind_three behind_four behind_all e f g h i =
    two text (one ++ other ++ third ++ fourth) last behind_four behind_all (four text one other third fourth behind_one behind_both behind_three behind_four e f g h) i
