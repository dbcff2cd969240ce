-- Texts that are written in several pieces.
use Rattle.std.proofs.Common.{◌≡◌, ◌∙◌, ℕ, List, ◌++◌, ap, append_assoc}

pub two : (t t₁ t₂ a b : List ℕ) → t₁ ≡ t ++ a → t₂ ≡ t₁ ++ b → t₂ ≡ t ++ (a ++ b)
two t t₁ t₂ a b e f = f ∙ ap (λ z. z ++ b) e ∙ append_assoc t a b

pub three : (t t₁ t₂ t₃ a b c : List ℕ) → t₁ ≡ t ++ a → t₂ ≡ t₁ ++ b → t₃ ≡ t₂ ++ c → t₃ ≡ t ++ (a ++ b ++ c)
three t t₁ t₂ t₃ a b c e f g = two t t₂ t₃ (a ++ b) c (two t t₁ t₂ a b e f) g

pub four : (t t₁ t₂ t₃ t₄ a b c d : List ℕ) → t₁ ≡ t ++ a → t₂ ≡ t₁ ++ b → t₃ ≡ t₂ ++ c → t₄ ≡ t₃ ++ d → t₄ ≡ t ++ (a ++ b ++ c ++ d)
four t t₁ t₂ t₃ t₄ a b c d e f g h = two t t₃ t₄ (a ++ b ++ c) d (three t t₁ t₂ t₃ a b c e f g) h

pub five : (t t₁ t₂ t₃ t₄ t₅ a b c d x : List ℕ) → t₁ ≡ t ++ a → t₂ ≡ t₁ ++ b → t₃ ≡ t₂ ++ c → t₄ ≡ t₃ ++ d → t₅ ≡ t₄ ++ x → t₅ ≡ t ++ (a ++ b ++ c ++ d ++ x)
five t t₁ t₂ t₃ t₄ t₅ a b c d x e f g h i = two t t₄ t₅ (a ++ b ++ c ++ d) x (four t t₁ t₂ t₃ t₄ a b c d e f g h) i

pub six : (t t₁ t₂ t₃ t₄ t₅ t₆ a b c d x y : List ℕ) → t₁ ≡ t ++ a → t₂ ≡ t₁ ++ b → t₃ ≡ t₂ ++ c → t₄ ≡ t₃ ++ d → t₅ ≡ t₄ ++ x → t₆ ≡ t₅ ++ y → t₆ ≡ t ++ (a ++ b ++ c ++ d ++ x ++ y)
six t t₁ t₂ t₃ t₄ t₅ t₆ a b c d x y e f g h i j = two t t₅ t₆ (a ++ b ++ c ++ d ++ x) y (five t t₁ t₂ t₃ t₄ t₅ a b c d x e f g h i) j

pub seven : (t t₁ t₂ t₃ t₄ t₅ t₆ t₇ a b c d x y z : List ℕ) → t₁ ≡ t ++ a → t₂ ≡ t₁ ++ b → t₃ ≡ t₂ ++ c → t₄ ≡ t₃ ++ d → t₅ ≡ t₄ ++ x → t₆ ≡ t₅ ++ y → t₇ ≡ t₆ ++ z
    → t₇ ≡ t ++ (a ++ b ++ c ++ d ++ x ++ y ++ z)
seven t t₁ t₂ t₃ t₄ t₅ t₆ t₇ a b c d x y z e f g h i j k = two t t₆ t₇ (a ++ b ++ c ++ d ++ x ++ y) z (six t t₁ t₂ t₃ t₄ t₅ t₆ a b c d x y e f g h i j) k
