-- The words that tell of actions: the walks that write which exceptions belong to which directives, and the front that comes of it. Assumes nothing.
use mathlib.Core.Path.{◌≡◌, refl, sym, ap, ◌∙◌}
use mathlib.Core.Bool.{Bool, true, false, not, ◌&&◌, ◌||◌}
use mathlib.Core.List.{List, [], ◌∷◌, ◌++◌, map}
use Prim.Native.Nat.{ℕ, zero, suc, ◌+◌, ◌*◌, ◌≤◌, ◌<◌}
use native.Mathlib.Numerals.{add-one}
use native.Mathlib.Omega.{arith}
use lib.Bits.{bit_or}
use lib.Dec.{eqb}
use lib.ListN.{length, get_or, take, drop, set, length-set, length-append, get_or-append, get_or-map}
use lib.Seq.{sets, sets-eq, take_all, take-suc, get_or-take, get_or-set_same, get_or-set_other, get_or-append-add, length-take-le, length-sets}
use Rattle.meaning.specs.Form.{Exception, most_directives}
use Rattle.meaning.specs.Rules.{Rule}
use Rattle.meaning.specs.Sizes.{first_owner, front_words, accepting_rules, accepting_directives, of_accepting, of_denying}
use Rattle.meaning.proofs.RecordsEvery.{every_of}
use Rattle.layout.specs.Masks.{mask}
use Rattle.cells.specs.Words.{accepts, names_such, WordsOf}
use Rattle.layout.proofs.MaskLaws.{mask_same, mask_or}
use Rattle.meaning.proofs.BufferStores.{sets_more}
use Rattle.sets.specs.Inner.{directives_of, exceptions_of}
use Rattle.sets.specs.Vocabulary.{directive_of}
use Rattle.sets.specs.declared.Directive.{Directive}
use Rattle.sets.specs.declared.Policy.{Policy}
use Rattle.front.specs.Inner.{owners_from}
use Rattle.bounds.proofs.Within.{length_within}

-- one mask a directive
owners_long : (n k : ℕ) (es : List Exception) → length (owners_from n k es) ≡ k
unfolding owners_from
owners_long n zero es = refl
owners_long n (suc k) es = ap suc (owners_long (suc n) k es)

pub owner_at : (n k : ℕ) (es : List Exception) (i : ℕ) → i < k
    → get_or (owners_from n k es) i 0 ≡ mask (λ (e : Exception). eqb e.directive (n + i)) es
unfolding owners_from
owner_at n zero es i h = absurd (omega arith)
owner_at n (suc k) es zero h = let here : n ≡ n + 0 = omega arith in ap (λ (j : ℕ). mask (λ (e : Exception). eqb e.directive j) es) here
owner_at n (suc k) es (suc i) h =
    let next : suc n + i ≡ n + suc i = omega arith in
    owner_at (suc n) k es i (omega arith) ∙ ap (λ (j : ℕ). mask (λ (e : Exception). eqb e.directive j) es) next

-- the exceptions of the first i directives are stored behind the first words of l
pub record OwnersUpTo (k : ℕ) (es : List Exception) (l : List ℕ) (i : ℕ) (words : List ℕ) : Type 0 where
  pub within : i ≤ k
  pub long : length words ≡ length l
  pub stored : words ≡ sets l first_owner (take i (owners_from 1 k es))

module _ (k : ℕ) (es : List Exception) (l : List ℕ) where
  taken_more : (i m : ℕ) → i < k → m ≡ mask (λ (e : Exception). eqb e.directive (i + 1)) es
      → take (i + 1) (owners_from 1 k es) ≡ take i (owners_from 1 k es) ++ (m ∷ [])
  taken_more i m h is_mask =
      let number : i + 1 ≡ 1 + i = omega arith in
      let is_owner = owner_at 1 k es i h ∙ ap (λ (j : ℕ). mask (λ (e : Exception). eqb e.directive j) es) (sym number) ∙ sym is_mask in
      rw (add-one i)
      (take-suc (owners_from 1 k es) i 0 (omega (arith, owners_long 1 k es)) ∙ ap (λ (x : ℕ). take i (owners_from 1 k es) ++ (x ∷ [])) is_owner)

  pub owners_more : (i : ℕ) (words : List ℕ) (m : ℕ) → i < k → m ≡ mask (λ (e : Exception). eqb e.directive (i + 1)) es → OwnersUpTo k es l i words
      → OwnersUpTo k es l (i + 1) (set words (first_owner + i) m)
  owners_more i words m h is_mask w =
      let room : i ≤ length (owners_from 1 k es) = omega (arith, owners_long 1 k es) in
      let set_behind = sets_more l (owners_from 1 k es) first_owner i m room (taken_more i m h is_mask) in
      record {
        within = omega arith;
        long = length-set words (first_owner + i) m ∙ w.long;
        stored = ap (λ (v : List ℕ). set v (first_owner + i) m) w.stored ∙ set_behind;
      }

  pub owners_end : (i : ℕ) (words : List ℕ) → k ≤ i → OwnersUpTo k es l i words → words ≡ sets l first_owner (owners_from 1 k es)
  owners_end i words past w = w.stored ∙ ap (sets l first_owner) (take_all i (owners_from 1 k es) (omega (arith, owners_long 1 k es)))

-- one directive more
names_more : (test : Rule → Bool) (n j : ℕ) (ds : List Rule) (d : Rule)
    → names_such test n (ds ++ (d ∷ [])) j ≡ (names_such test n ds j || eqb j (n + length ds) && test d)
unfolding names_such
names_more test n j [] d =
    let here : n ≡ n + 0 = omega arith in
    ap (λ (k : ℕ). eqb j k && test d || false) here ∙ by (eqb j (n + 0) && test d)
  where
    by : (a : Bool) → (a || false) ≡ a
    by true = refl
    by false = refl
names_more test n j (c ∷ ds) d =
    let next : suc n + length ds ≡ n + suc (length ds) = omega arith in
    ap (λ (b : Bool). eqb j n && test c || b) (names_more test (suc n) j ds d)
    ∙ by (eqb j n && test c) (names_such test (suc n) ds j) (eqb j (suc n + length ds) && test d)
    ∙ ap (λ (k : ℕ). eqb j n && test c || names_such test (suc n) ds j || eqb j k && test d) next
  where
    by : (a b c : Bool) → (a || (b || c)) ≡ (a || b || c)
    by true b c = refl
    by false b c = refl

-- the exceptions of those of these directives that pass a test
abbrev such : (Rule → Bool) → List Exception → List Rule → ℕ
such test es ds = mask (λ (e : Exception). names_such test 1 ds e.directive) es

such_none : (test : Rule → Bool) (es : List Exception) → such test es [] ≡ 0
unfolding names_such mask
such_none test [] = refl
such_none test (e ∷ es) = ap (λ (m : ℕ). 0 + 2 * m) (such_none test es)

-- of one directive more
module _ (test : Rule → Bool) (ds : List Rule) (es : List Exception) (d : Rule) where
  such_more : test d ≡ true
      → bit_or (such test es ds) (mask (λ (e : Exception). eqb e.directive (suc (length ds))) es) ≡ such test es (ds ++ (d ∷ []))
  such_more t =
      mask_or (λ (e : Exception). names_such test 1 ds e.directive) (λ (e : Exception). eqb e.directive (suc (length ds))) es
      ∙ mask_same (every_of one_of es)
    where
      by : (a b : Bool) → b ≡ true → a ≡ (a && b)
      by true b e = sym e
      by false b e = refl

      one_of : (e : Exception)
          → (names_such test 1 ds e.directive || eqb e.directive (suc (length ds))) ≡ names_such test 1 (ds ++ (d ∷ [])) e.directive
      one_of e =
          let number : suc (length ds) ≡ 1 + length ds = omega arith in
          ap (λ (k : ℕ). names_such test 1 ds e.directive || eqb e.directive k) number
          ∙ ap (λ (b : Bool). names_such test 1 ds e.directive || b) (by (eqb e.directive (1 + length ds)) (test d) t)
          ∙ sym (names_more test 1 e.directive ds d)

  such_same : test d ≡ false → such test es ds ≡ such test es (ds ++ (d ∷ []))
  such_same t = mask_same (every_of one_of es)
    where
      by : (a b c : Bool) → c ≡ false → a ≡ (a || b && c)
      by true b c e = refl
      by false true c e = sym e
      by false false c e = refl

      one_of : (e : Exception) → names_such test 1 ds e.directive ≡ names_such test 1 (ds ++ (d ∷ [])) e.directive
      one_of e =
          by (names_such test 1 ds e.directive) (eqb e.directive (1 + length ds)) (test d) t ∙ sym (names_more test 1 e.directive ds d)

-- the exceptions of those of the first i directives that accept, and of those that deny
pub record TurnedUpTo (p : Policy) (i accepting denying : ℕ) : Type 0 where
  pub within : i ≤ p.directive_count
  pub are_accepting : accepting ≡ such accepts (exceptions_of p) (take i (directives_of p))
  pub are_denying : denying ≡ such (λ (d : Rule). not (accepts d)) (exceptions_of p) (take i (directives_of p))

module _ (p : Policy) where
  pub turned_start : TurnedUpTo p 0 0 0
  turned_start =
      record {
        within = omega arith;
        are_accepting = sym (such_none accepts (exceptions_of p));
        are_denying = sym (such_none (λ (d : Rule). not (accepts d)) (exceptions_of p));
      }

  module _ (enough : p.directive_count ≤ length p.directives) (i a b own : ℕ) (x : Directive) (h : i < p.directive_count)
      (is_next : x ≡ get_or (take p.directive_count p.directives) i x)
      (is_own : own ≡ mask (λ (e : Exception). eqb e.directive (suc i)) (exceptions_of p)) (w : TurnedUpTo p i a b) where
    abbrev d : Rule
    d = directive_of x

    one_more : take (i + 1) (directives_of p) ≡ take i (directives_of p) ++ (d ∷ [])
    one_more =
        let it = ap directive_of (sym (is_next ∙ get_or-take p.directive_count p.directives i x h)) in
        rw (add-one i)
        (take-suc (directives_of p) i d (omega (arith, length_within directive_of p.directives p.directive_count enough))
        ∙ ap (λ (r : Rule). take i (directives_of p) ++ (r ∷ []))
        (get_or-take p.directive_count (map directive_of p.directives) i d h ∙ get_or-map directive_of p.directives i x ∙ it))

    so_many : length (take i (directives_of p)) ≡ i
    so_many = length-take-le i (directives_of p) (omega (arith, length_within directive_of p.directives p.directive_count enough))

    grown : (test : Rule → Bool) (m : ℕ) → test d ≡ true → m ≡ such test (exceptions_of p) (take i (directives_of p))
        → bit_or m own ≡ such test (exceptions_of p) (take (i + 1) (directives_of p))
    grown test m t is_m =
        let own_is = is_own ∙ ap (λ (k : ℕ). mask (λ (e : Exception). eqb e.directive (suc k)) (exceptions_of p)) (sym so_many) in
        (λ j. bit_or (is_m j) (own_is j))
        ∙ such_more test (take i (directives_of p)) (exceptions_of p) d t
        ∙ ap (such test (exceptions_of p)) (sym one_more)

    kept : (test : Rule → Bool) (m : ℕ) → test d ≡ false → m ≡ such test (exceptions_of p) (take i (directives_of p))
        → m ≡ such test (exceptions_of p) (take (i + 1) (directives_of p))
    kept test m t is_m = is_m ∙ such_same test (take i (directives_of p)) (exceptions_of p) d t ∙ ap (such test (exceptions_of p)) (sym one_more)

    pub turned_accept : accepts d ≡ true → TurnedUpTo p (i + 1) (bit_or a own) b
    turned_accept asks =
        record {
          within = omega arith;
          are_accepting = grown accepts a asks w.are_accepting;
          are_denying = kept (λ (r : Rule). not (accepts r)) b (ap not asks) w.are_denying;
        }

    pub turned_deny : accepts d ≡ false → TurnedUpTo p (i + 1) a (bit_or b own)
    turned_deny denies =
        record {
          within = omega arith;
          are_accepting = kept accepts a denies w.are_accepting;
          are_denying = grown (λ (r : Rule). not (accepts r)) b (ap not denies) w.are_denying;
        }

-- the exceptions of k directives, stored behind the first words of l
module _ (k : ℕ) (es : List Exception) (l : List ℕ) (room : first_owner + k ≤ length l) where
  -- the first words with the exceptions, and the words behind them
  abbrev up_to : List ℕ
  up_to = take first_owner l ++ owners_from 1 k es

  abbrev rest : List ℕ
  rest = drop (first_owner + length (owners_from 1 k es)) l

  laid : sets l first_owner (owners_from 1 k es) ≡ up_to ++ rest
  laid = sets-eq (owners_from 1 k es) l first_owner (omega (arith, owners_long 1 k es))

  so_far : length (take first_owner l) ≡ first_owner
  so_far = length-take-le first_owner l (omega arith)

  so_long : length up_to ≡ first_owner + k
  so_long = length-append (take first_owner l) (owners_from 1 k es) ∙ omega (arith, so_far, owners_long 1 k es)

  -- a word before them
  below_owners : (j : ℕ) → j < first_owner → get_or (sets l first_owner (owners_from 1 k es)) j 0 ≡ get_or l j 0
  below_owners j h =
      ap (λ (x : List ℕ). get_or x j 0) laid
      ∙ get_or-append up_to rest 0 j (omega (arith, so_long))
      ∙ get_or-append (take first_owner l) (owners_from 1 k es) 0 j (omega (arith, so_far))
      ∙ get_or-take first_owner l j 0 h

  -- the word of a directive
  pub owner_word : (t : ℕ) → t < k
      → get_or (sets l first_owner (owners_from 1 k es)) (first_owner + t) 0 ≡ mask (λ (e : Exception). eqb e.directive (suc t)) es
  owner_word t h =
      let at : first_owner + t ≡ length (take first_owner l) + t = omega (arith, so_far) in
      let number : 1 + t ≡ suc t = omega arith in
      ap (λ (x : List ℕ). get_or x (first_owner + t) 0) laid
      ∙ get_or-append up_to rest 0 (first_owner + t) (omega (arith, so_long))
      ∙ ap (λ (j : ℕ). get_or up_to j 0) at
      ∙ get_or-append-add (take first_owner l) (owners_from 1 k es) t 0
      ∙ owner_at 1 k es t h
      ∙ ap (λ (j : ℕ). mask (λ (e : Exception). eqb e.directive j) es) number

-- The masks of rules and directives, the exceptions of each directive, and those of the directives that accept and that deny, stored in front
-- of an array.
module _ (l : List ℕ) (rules directives : List Rule) (exceptions : List Exception) (k a b c d : ℕ) (words : List ℕ)
    (so_many : length directives ≡ k) (few : k ≤ most_directives) (room : front_words ≤ length l)
    (is_words : words
    ≡ set (set (sets (set (set l accepting_rules a) accepting_directives b) first_owner (owners_from 1 k exceptions)) of_accepting c) of_denying d) where
  abbrev owners : List ℕ
  owners = owners_from 1 k exceptions

  abbrev two : List ℕ
  two = set (set l accepting_rules a) accepting_directives b

  long : length two ≡ length l
  long = length-set (set l accepting_rules a) accepting_directives b ∙ length-set l accepting_rules a

  behind : first_owner + k ≤ length two
  behind = omega (arith, long)

  abbrev three : List ℕ
  three = set (sets two first_owner owners) of_accepting c

  wide : length (sets two first_owner owners) ≡ length l
  wide = length-sets two first_owner owners ∙ long

  -- a word of the front
  in_front : (j : ℕ) → j < front_words → get_or (take front_words words) j 0 ≡ get_or (set three of_denying d) j 0
  in_front j h = get_or-take front_words words j 0 h ∙ ap (λ (x : List ℕ). get_or x j 0) is_words

  other_word : (j : ℕ) → ¬ (j ≡ of_accepting) → ¬ (j ≡ of_denying)
      → get_or (set three of_denying d) j 0 ≡ get_or (sets two first_owner owners) j 0
  other_word j n m = get_or-set_other three of_denying j d 0 m ∙ get_or-set_other (sets two first_owner owners) of_accepting j c 0 n

  -- one of the first two words
  first_word : (j : ℕ) → j < of_accepting → get_or (take front_words words) j 0 ≡ get_or two j 0
  first_word j h = in_front j (omega arith) ∙ other_word j (λ e. omega arith) (λ e. omega arith) ∙ below_owners k exceptions two behind j (omega arith)

  rules_word : get_or two accepting_rules 0 ≡ a
  rules_word =
      get_or-set_other (set l accepting_rules a) accepting_directives accepting_rules b 0 (λ e. omega arith) ∙ get_or-set_same l accepting_rules a 0 (omega arith)

  directives_word : get_or two accepting_directives 0 ≡ b
  directives_word = get_or-set_same (set l accepting_rules a) accepting_directives b 0 (omega (arith, length-set l accepting_rules a))

  -- the two words after them
  accepting_word : get_or (set three of_denying d) of_accepting 0 ≡ c
  accepting_word =
      get_or-set_other three of_denying of_accepting d 0 (λ e. omega arith) ∙ get_or-set_same (sets two first_owner owners) of_accepting c 0 (omega (arith, wide))

  denying_word : get_or (set three of_denying d) of_denying 0 ≡ d
  denying_word = get_or-set_same three of_denying d 0 (omega (arith, wide, length-set (sets two first_owner owners) of_accepting c))

  pub front_is : a ≡ mask accepts rules → b ≡ mask accepts directives
      → c ≡ mask (λ (e : Exception). names_such accepts 1 directives e.directive) exceptions
      → d ≡ mask (λ (e : Exception). names_such (λ (r : Rule). not (accepts r)) 1 directives e.directive) exceptions
      → WordsOf rules directives exceptions (take front_words words)
  front_is is_a is_b is_c is_d =
      record {
        accepting_rules_word = first_word accepting_rules (omega arith) ∙ rules_word ∙ is_a;
        accepting_directives_word = first_word accepting_directives (omega arith) ∙ directives_word ∙ is_b;
        of_accepting_word = in_front of_accepting (omega arith) ∙ accepting_word ∙ is_c;
        of_denying_word = in_front of_denying (omega arith) ∙ denying_word ∙ is_d;
        of_each = λ t h.
            in_front (first_owner + t) (omega arith) ∙ other_word (first_owner + t) (λ e. omega arith) (λ e. omega arith)
            ∙ owner_word k exceptions two behind t (omega arith);
      }
