-- A solver of identities of commutative rings, by reflection: an expression is normalised to a polynomial, a sorted list of
-- terms, each a list of exponents (of variable 0, 1, ..) and a coefficient; two expressions with one normal form are equal in each ring.
use mathlib.Core.Path.{◌≡◌, refl, sym, ◌∙◌, ap, ap₂}
use mathlib.Core.List.{List, [], ◌∷◌}
use Prim.Native.Nat.{ℕ, zero, suc, ◌+◌, ◌*◌, ◌-◌, compare, Ordering}
use native.Mathlib.Nat as N
use lib.Dec.{compare_is_eq, eqb→eq, T}
use Rattle.algebra.specs.ring.Ring.{Ops, pow}
use Rattle.algebra.specs.fourier.Axis.{cast}
use Rattle.algebra.specs.ring.RingLaws.{CRing}
use Rattle.algebra.proofs.ring.Laws.{add_zero, add_neg, mul_one, right_distrib, add_left_comm, mul_left_comm, neg_sum, mul_zero, zero_mul, mul_neg, neg_mul, neg_neg, neg_zero, add_neg_cancel_left, add_left_cancel, pow_add, cast_add, cast_mul}

-- expressions
pub data E : Type 0 where
  var : ℕ → E
  e0 e1 : E
  nat : ℕ → E
  ◌:+◌ ◌:*◌ : E → E → E
  :-◌ : E → E
  ◌:^◌ : E → ℕ → E

infixl 65 ◌:+◌
infixl 70 ◌:*◌
infix 75 :-◌
infix 80 ◌:^◌
-- a coefficient: a difference of two numbers, of which one is zero
pub data Co : Type 0 where
  co : ℕ → ℕ → Co

abbrev pub nrm : ℕ → ℕ → Co
nrm a b = co (a - b) (b - a)

abbrev pub add_c : Co → Co → Co
add_c (co a b) (co c d) = nrm (a + c) (b + d)

abbrev pub mul_c : Co → Co → Co
mul_c (co a b) (co c d) = nrm (a * c + b * d) (a * d + b * c)

abbrev pub neg_c : Co → Co
neg_c (co a b) = co b a

-- a monomial: the exponents, with no zero at the end
abbrev pub Mono : Type 0
Mono = List ℕ

abbrev pub mul_m : Mono → Mono → Mono
mul_m [] n = n
mul_m (e ∷ m) [] = e ∷ m
mul_m (e ∷ m) (f ∷ n) = (e + f) ∷ mul_m m n

abbrev pub unit_m : ℕ → Mono
unit_m zero = 1 ∷ []
unit_m (suc i) = 0 ∷ unit_m i

abbrev pub cmp_m : Mono → Mono → Ordering
cmp_m [] [] = Ordering.eq
cmp_m [] (f ∷ n) = Ordering.lt
cmp_m (e ∷ m) [] = Ordering.gt
cmp_m (e ∷ m) (f ∷ n) = elim (compare e f) [ Ordering.lt ↦ Ordering.lt | Ordering.eq ↦ cmp_m m n | Ordering.gt ↦ Ordering.gt ]

-- polynomials
pub data P : Type 0 where
  nil : P
  term : Co → Mono → P → P

-- a term in front, unless its coefficient is zero
abbrev pub cons_p : Co → Mono → P → P
cons_p (co zero zero) m p = p
cons_p (co zero (suc b)) m p = term (co zero (suc b)) m p
cons_p (co (suc a) b) m p = term (co (suc a) b) m p

abbrev pub merge_p : Co → Mono → (P → P) → P → P
merge_p c m k nil = term c m (k nil)
merge_p c m k (term d n q) = elim (cmp_m m n) [ Ordering.lt ↦ term c m (k (term d n q)) | Ordering.eq ↦ cons_p (add_c c d) m (k q) | Ordering.gt ↦ term d n (merge_p c m k q) ]

abbrev pub add_p : P → P → P
add_p nil q = q
add_p (term c m p) q = merge_p c m (add_p p) q

abbrev pub scale_p : Co → Mono → P → P
scale_p c m nil = nil
scale_p c m (term d n q) = cons_p (mul_c c d) (mul_m m n) (scale_p c m q)

abbrev pub mul_p : P → P → P
mul_p nil q = nil
mul_p (term c m p) q = add_p (scale_p c m q) (mul_p p q)

abbrev pub neg_p : P → P
neg_p nil = nil
neg_p (term c m p) = term (neg_c c) m (neg_p p)

-- what `k` is applied to is computed first, and once: antt computes a call that stands as an argument anew at each reading
abbrev pub force_m : Mono → (Mono → P) → P
force_m [] k = k []
force_m (e ∷ m) k = force_m m (λ n. k (e ∷ n))

abbrev pub force : P → (P → P) → P
force nil k = k nil
force (term c m p) k = force_m m (λ n. force p (λ q. k (term c n q)))

force_m_ok : (m : Mono) (k : Mono → P) → force_m m k ≡ k m
force_m_ok [] k = refl
force_m_ok (e ∷ m) k = force_m_ok m (λ n. k (e ∷ n))

force_ok : (p : P) (k : P → P) → force p k ≡ k p
force_ok nil k = refl
force_ok (term c m p) k = force_m_ok m (λ n. force p (λ q. k (term c n q))) ∙ force_ok p (λ q. k (term c m q))

abbrev pub pow_p : P → ℕ → P
pow_p p zero = term (co 1 0) [] nil
pow_p p (suc n) = force (pow_p p n) (mul_p p)

abbrev pub norm : E → P
norm (var i) = term (co 1 0) (unit_m i) nil
norm e0 = nil
norm e1 = term (co 1 0) [] nil
norm (nat k) = cons_p (co k 0) [] nil
norm (a :+ b) = add_p (norm a) (norm b)
norm (a :* b) = force (norm a) (λ p. force (norm b) (mul_p p))
norm (:- a) = neg_p (norm a)
norm (a :^ n) = force (norm a) (λ p. pow_p p n)

module _ {R : Type 0} (𝓞 : Ops R) where
  open 𝓞 use {add as ◌⊕◌, mul as ◌⊗◌, neg as ⊖◌, zer as 𝟘, one as 𝟙}

  infixl 65 ◌⊕◌
  infixl 70 ◌⊗◌
  infix 75 ⊖◌
  abbrev pub eval : (ℕ → R) → E → R
  eval ρ (var i) = ρ i
  eval ρ e0 = 𝟘
  eval ρ e1 = 𝟙
  eval ρ (nat k) = cast 𝓞 k
  eval ρ (a :+ b) = eval ρ a ⊕ eval ρ b
  eval ρ (a :* b) = eval ρ a ⊗ eval ρ b
  eval ρ (:- a) = ⊖ eval ρ a
  eval ρ (a :^ n) = pow 𝓞 (eval ρ a) n

  ev_c : Co → R
  ev_c (co a b) = cast 𝓞 a ⊕ ⊖ cast 𝓞 b

  ev_m : (ℕ → R) → Mono → ℕ → R
  ev_m ρ [] k = 𝟙
  ev_m ρ (e ∷ m) k = pow 𝓞 (ρ k) e ⊗ ev_m ρ m (suc k)

  ev_p : (ℕ → R) → P → R
  ev_p ρ nil = 𝟘
  ev_p ρ (term c m p) = ev_c c ⊗ ev_m ρ m zero ⊕ ev_p ρ p

  -- the environment of a list
  abbrev pub env : List R → ℕ → R
  env [] i = 𝟘
  env (x ∷ xs) zero = x
  env (x ∷ xs) (suc i) = env xs i

  -- quoting: `Q xs x` is an expression of value x over xs
  pub data In : List R → R → Type 0 where
    here : {x : R} {xs : List R} → In (x ∷ xs) x
    there : {x y : R} {xs : List R} → In xs x → In (y ∷ xs) x

  pub data Q (xs : List R) : R → Type 0 where
    q_add : {a b : R} → Q xs a → Q xs b → Q xs (a ⊕ b)
    q_mul : {a b : R} → Q xs a → Q xs b → Q xs (a ⊗ b)
    q_neg : {a : R} → Q xs a → Q xs (⊖ a)
    q_one : Q xs 𝟙
    q_zero : Q xs 𝟘
    q_var : {a : R} → In xs a → Q xs a
    q_pow : {a : R} (n : ℕ) → Q xs a → Q xs (pow 𝓞 a n)
    q_nat : (n : ℕ) → Q xs (cast 𝓞 n)
    -- for rules of other modules, as of a conjugation: what an expression is equal to
    q_by : {a b : R} → b ≡ a → Q xs b → Q xs a

  abbrev pub index : {xs : List R} {x : R} → In xs x → ℕ
  index here = 0
  index (there p) = suc (index p)

  abbrev pub expr : {xs : List R} {x : R} → Q xs x → E
  expr (q_add p q) = expr p :+ expr q
  expr (q_mul p q) = expr p :* expr q
  expr (q_neg p) = :- expr p
  expr q_one = e1
  expr q_zero = e0
  expr (q_var i) = var (index i)
  expr (q_pow n p) = expr p :^ n
  expr (q_nat n) = nat n
  expr (q_by e p) = expr p

  pub data Quoted (xs : List R) : R → R → Type 0 where
    quoted : {a b : R} → Q xs a → Q xs b → Quoted xs a b

  abbrev pub Same : {xs : List R} {a b : R} → Quoted xs a b → Type 0
  Same (quoted p q) = norm (expr p) ≡ norm (expr q)

module _ {R : Type 0} {𝓞 : Ops R} (𝓡 : CRing 𝓞) where
  open 𝓞 use {add as ◌⊕◌, mul as ◌⊗◌, neg as ⊖◌, zer as 𝟘, one as 𝟙}
  open 𝓡 use {add_assoc, add_comm, zero_add, mul_assoc, one_mul, left_distrib}

  infixl 65 ◌⊕◌
  infixl 70 ◌⊗◌
  infix 75 ⊖◌
  cancel : (x y : R) → (𝟙 ⊕ x) ⊕ ⊖ (𝟙 ⊕ y) ≡ x ⊕ ⊖ y
  cancel x y = simp (neg_sum 𝓡, add_assoc, add_left_comm 𝓡 x (⊖ 𝟙) (⊖ y), add_neg_cancel_left 𝓡)

  nrm_ok : (a b : ℕ) → ev_c 𝓞 (nrm a b) ≡ cast 𝓞 a ⊕ ⊖ cast 𝓞 b
  unfolding ev_c cast
  nrm_ok zero b = rw (N.zero-sub, N.sub-zero)
  nrm_ok (suc a) zero = rw (N.zero-sub, N.sub-zero)
  nrm_ok (suc a) (suc b) = rw (N.suc-sub-suc, N.suc-sub-suc) (nrm_ok a b ∙ sym (cancel (cast 𝓞 a) (cast 𝓞 b)))

  add_c_ok : (c d : Co) → ev_c 𝓞 (add_c c d) ≡ ev_c 𝓞 c ⊕ ev_c 𝓞 d
  unfolding ev_c
  add_c_ok (co a b) (co c d) = nrm_ok (a + c) (b + d) ∙ simp (cast_add 𝓡, neg_sum 𝓡, add_assoc, add_left_comm 𝓡)

  mul_c_ok : (c d : Co) → ev_c 𝓞 (mul_c c d) ≡ ev_c 𝓞 c ⊗ ev_c 𝓞 d
  unfolding ev_c
  mul_c_ok (co a b) (co c d) = nrm_ok (a * c + b * d) (a * d + b * c) ∙ simp (cast_add 𝓡, cast_mul 𝓡, neg_sum 𝓡, left_distrib, right_distrib 𝓡, mul_neg 𝓡, neg_mul 𝓡, neg_neg 𝓡, add_assoc, add_left_comm 𝓡, add_comm)

  neg_c_ok : (c : Co) → ev_c 𝓞 (neg_c c) ≡ ⊖ ev_c 𝓞 c
  unfolding ev_c
  neg_c_ok (co a b) = simp (neg_sum 𝓡, neg_neg 𝓡) (add_comm _ _)

  -- monomials
  mul_m_ok : (ρ : ℕ → R) (m n : Mono) (k : ℕ) → ev_m 𝓞 ρ (mul_m m n) k ≡ ev_m 𝓞 ρ m k ⊗ ev_m 𝓞 ρ n k
  unfolding ev_m pow
  mul_m_ok ρ [] n k = sym (one_mul (ev_m 𝓞 ρ n k))
  mul_m_ok ρ (e ∷ m) [] k = sym (mul_one 𝓡 (ev_m 𝓞 ρ (e ∷ m) k))
  mul_m_ok ρ (e ∷ m) (f ∷ n) k = rw (pow_add 𝓡 (ρ k) e f, mul_m_ok ρ m n (suc k)) (simp (mul_assoc, mul_left_comm 𝓡))

  unit_m_ok : (ρ : ℕ → R) (i k : ℕ) → ev_m 𝓞 ρ (unit_m i) k ≡ ρ (i + k)
  unfolding ev_m pow
  unit_m_ok ρ zero k = rw N.zero-add (simp (mul_one 𝓡))
  unit_m_ok ρ (suc i) k = rw (one_mul, N.suc-add) (unit_m_ok ρ i (suc k) ∙ ap ρ (N.add-suc i k))

  cmp_m_eq : (m n : Mono) → cmp_m m n ≡ Ordering.eq → m ≡ n
  cmp_m_eq [] [] h = refl
  cmp_m_eq [] (f ∷ n) h = cc
  cmp_m_eq (e ∷ m) [] h = cc
  cmp_m_eq (e ∷ m) (f ∷ n) h = go (compare e f) (λ t. eqb→eq e f t) (cmp_m m n) (cmp_m_eq m n) h
    where
      go : (o : Ordering) → (T (compare_is_eq o) → e ≡ f) → (r : Ordering) → (r ≡ Ordering.eq → m ≡ n) → (elim o [ Ordering.lt ↦ Ordering.lt | Ordering.eq ↦ r | Ordering.gt ↦ Ordering.gt ]) ≡ Ordering.eq → ◌≡◌ {A = Mono} (e ∷ m) (f ∷ n)
      go Ordering.lt i r j h = cc
      go Ordering.eq i r j h = ap₂ ◌∷◌ (i tt) (j h)
      go Ordering.gt i r j h = cc

  -- polynomials
  cons_p_ok : (ρ : ℕ → R) (c : Co) (m : Mono) (p : P) → ev_p 𝓞 ρ (cons_p c m p) ≡ ev_c 𝓞 c ⊗ ev_m 𝓞 ρ m zero ⊕ ev_p 𝓞 ρ p
  unfolding ev_p ev_c cast
  cons_p_ok ρ (co zero zero) m p = simp (add_neg 𝓡, zero_mul 𝓡, zero_add)
  cons_p_ok ρ (co zero (suc b)) m p = refl
  cons_p_ok ρ (co (suc a) b) m p = refl

  merge_step : (c d m x q : R) → (c ⊕ d) ⊗ m ⊕ (x ⊕ q) ≡ c ⊗ m ⊕ x ⊕ (d ⊗ m ⊕ q)
  merge_step c d m x q = simp (right_distrib 𝓡, add_assoc, add_left_comm 𝓡)

  scale_step : (c d m n q : R) → (c ⊗ d) ⊗ (m ⊗ n) ⊕ (c ⊗ m) ⊗ q ≡ (c ⊗ m) ⊗ (d ⊗ n ⊕ q)
  scale_step c d m n q = simp (left_distrib, mul_assoc, mul_left_comm 𝓡)

  merge_p_ok : (ρ : ℕ → R) (c : Co) (m : Mono) (k : P → P) (x : R) → ((q : P) → ev_p 𝓞 ρ (k q) ≡ x ⊕ ev_p 𝓞 ρ q) → (q : P) → ev_p 𝓞 ρ (merge_p c m k q) ≡ ev_c 𝓞 c ⊗ ev_m 𝓞 ρ m zero ⊕ x ⊕ ev_p 𝓞 ρ q
  unfolding ev_p
  merge_p_ok ρ c m k x h nil = rw h (sym (add_assoc _ _ _))
  merge_p_ok ρ c m k x h (term d n q) = go (cmp_m m n) (cmp_m_eq m n) (merge_p c m k q) (merge_p_ok ρ c m k x h q)
    where
      go : (o : Ordering) → (o ≡ Ordering.eq → m ≡ n) → (r : P) → ev_p 𝓞 ρ r ≡ ev_c 𝓞 c ⊗ ev_m 𝓞 ρ m zero ⊕ x ⊕ ev_p 𝓞 ρ q → ev_p 𝓞 ρ (elim o [ Ordering.lt ↦ term c m (k (term d n q)) | Ordering.eq ↦ cons_p (add_c c d) m (k q) | Ordering.gt ↦ term d n r ]) ≡ ev_c 𝓞 c ⊗ ev_m 𝓞 ρ m zero ⊕ x ⊕ (ev_c 𝓞 d ⊗ ev_m 𝓞 ρ n zero ⊕ ev_p 𝓞 ρ q)
      go Ordering.lt i r j = ap (λ y. ev_c 𝓞 c ⊗ ev_m 𝓞 ρ m zero ⊕ y) (h (term d n q)) ∙ sym (add_assoc _ _ _)
      go Ordering.eq i r j = cons_p_ok ρ (add_c c d) m (k q) ∙ rw (h, add_c_ok, ← i refl) (merge_step _ _ _ _ _)
      go Ordering.gt i r j = ap (λ y. ev_c 𝓞 d ⊗ ev_m 𝓞 ρ n zero ⊕ y) j ∙ add_left_comm 𝓡 _ _ _

  add_p_ok : (ρ : ℕ → R) (p q : P) → ev_p 𝓞 ρ (add_p p q) ≡ ev_p 𝓞 ρ p ⊕ ev_p 𝓞 ρ q
  unfolding ev_p
  add_p_ok ρ nil q = sym (zero_add (ev_p 𝓞 ρ q))
  add_p_ok ρ (term c m p) q = merge_p_ok ρ c m (add_p p) (ev_p 𝓞 ρ p) (add_p_ok ρ p) q

  scale_p_ok : (ρ : ℕ → R) (c : Co) (m : Mono) (q : P) → ev_p 𝓞 ρ (scale_p c m q) ≡ ev_c 𝓞 c ⊗ ev_m 𝓞 ρ m zero ⊗ ev_p 𝓞 ρ q
  unfolding ev_p
  scale_p_ok ρ c m nil = sym (mul_zero 𝓡 _)
  scale_p_ok ρ c m (term d n q) = cons_p_ok ρ (mul_c c d) (mul_m m n) (scale_p c m q) ∙ ap₂ ◌⊕◌ (ap₂ ◌⊗◌ (mul_c_ok c d) (mul_m_ok ρ m n zero)) (scale_p_ok ρ c m q) ∙ scale_step _ _ _ _ _

  mul_p_ok : (ρ : ℕ → R) (p q : P) → ev_p 𝓞 ρ (mul_p p q) ≡ ev_p 𝓞 ρ p ⊗ ev_p 𝓞 ρ q
  unfolding ev_p
  mul_p_ok ρ nil q = sym (zero_mul 𝓡 (ev_p 𝓞 ρ q))
  mul_p_ok ρ (term c m p) q = add_p_ok ρ (scale_p c m q) (mul_p p q) ∙ rw (scale_p_ok ρ c m q, mul_p_ok ρ p q) (sym (right_distrib 𝓡 _ _ _))

  neg_p_ok : (ρ : ℕ → R) (p : P) → ev_p 𝓞 ρ (neg_p p) ≡ ⊖ ev_p 𝓞 ρ p
  unfolding ev_p
  neg_p_ok ρ nil = sym (neg_zero 𝓡)
  neg_p_ok ρ (term c m p) = rw (neg_c_ok c, neg_p_ok ρ p, neg_mul 𝓡) (sym (neg_sum 𝓡 _ _))

  ev_c_nat : (k : ℕ) → ev_c 𝓞 (co k 0) ≡ cast 𝓞 k
  unfolding ev_c cast
  ev_c_nat k = ap (λ y. cast 𝓞 k ⊕ y) (neg_zero 𝓡) ∙ add_zero 𝓡 (cast 𝓞 k)

  ev_c_one : ev_c 𝓞 (co 1 0) ≡ 𝟙
  unfolding cast
  ev_c_one = ev_c_nat 1 ∙ add_zero 𝓡 𝟙

  one_ok : (ρ : ℕ → R) → ev_p 𝓞 ρ (term (co 1 0) [] nil) ≡ 𝟙
  unfolding ev_p ev_m
  one_ok ρ = simp (ev_c_one, add_zero 𝓡, mul_one 𝓡)

  pow_p_ok : (ρ : ℕ → R) (p : P) (n : ℕ) → ev_p 𝓞 ρ (pow_p p n) ≡ pow 𝓞 (ev_p 𝓞 ρ p) n
  unfolding pow
  pow_p_ok ρ p zero = one_ok ρ
  pow_p_ok ρ p (suc n) = ap (ev_p 𝓞 ρ) (force_ok (pow_p p n) (mul_p p)) ∙ mul_p_ok ρ p (pow_p p n) ∙ ap (λ y. ev_p 𝓞 ρ p ⊗ y) (pow_p_ok ρ p n)

  norm_ok : (ρ : ℕ → R) (e : E) → ev_p 𝓞 ρ (norm e) ≡ eval 𝓞 ρ e
  unfolding ev_p ev_m
  norm_ok ρ (var i) = rw unit_m_ok (simp (ev_c_one, add_zero 𝓡, one_mul, N.add-zero))
  norm_ok ρ e0 = refl
  norm_ok ρ e1 = one_ok ρ
  norm_ok ρ (nat k) = cons_p_ok ρ (co k 0) [] nil ∙ simp (ev_c_nat, add_zero 𝓡, mul_one 𝓡)
  norm_ok ρ (a :+ b) = add_p_ok ρ (norm a) (norm b) ∙ ap₂ ◌⊕◌ (norm_ok ρ a) (norm_ok ρ b)
  norm_ok ρ (a :* b) = ap (ev_p 𝓞 ρ) (force_ok (norm a) _ ∙ force_ok (norm b) (mul_p (norm a))) ∙ mul_p_ok ρ (norm a) (norm b) ∙ ap₂ ◌⊗◌ (norm_ok ρ a) (norm_ok ρ b)
  norm_ok ρ (:- a) = neg_p_ok ρ (norm a) ∙ ap ⊖◌ (norm_ok ρ a)
  norm_ok ρ (a :^ n) = ap (ev_p 𝓞 ρ) (force_ok (norm a) _) ∙ pow_p_ok ρ (norm a) n ∙ ap (λ y. pow 𝓞 y n) (norm_ok ρ a)

  pub solve : (ρ : ℕ → R) (a b : E) → norm a ≡ norm b → eval 𝓞 ρ a ≡ eval 𝓞 ρ b
  solve ρ a b h = sym (norm_ok ρ a) ∙ ap (ev_p 𝓞 ρ) h ∙ norm_ok ρ b

  index_ok : {xs : List R} {x : R} (p : In 𝓞 xs x) → env 𝓞 xs (index 𝓞 p) ≡ x
  index_ok here = refl
  index_ok (there p) = index_ok p

  expr_ok : {xs : List R} {x : R} (p : Q 𝓞 xs x) → eval 𝓞 (env 𝓞 xs) (expr 𝓞 p) ≡ x
  expr_ok (q_add p q) = ap₂ ◌⊕◌ (expr_ok p) (expr_ok q)
  expr_ok (q_mul p q) = ap₂ ◌⊗◌ (expr_ok p) (expr_ok q)
  expr_ok (q_neg p) = ap ⊖◌ (expr_ok p)
  expr_ok q_one = refl
  expr_ok q_zero = refl
  expr_ok (q_var i) = index_ok i
  expr_ok (q_pow n p) = ap (λ y. pow 𝓞 y n) (expr_ok p)
  expr_ok (q_nat n) = refl
  expr_ok (q_by e p) = expr_ok p ∙ e

  pub ring : (xs : List R) {a b : R} (p : Quoted 𝓞 xs a b) → Same 𝓞 p → a ≡ b
  ring xs (quoted p q) h = sym (expr_ok p) ∙ solve (env 𝓞 xs) (expr 𝓞 p) (expr 𝓞 q) h ∙ expr_ok q

  -- from an equation in hand, taken k times
  pub linear : {l r : R} → l ≡ r → (k : R) {a b : R} → a ⊕ k ⊗ r ≡ b ⊕ k ⊗ l → a ≡ b
  linear {l} {r} h k {a} {b} e = add_left_cancel 𝓡 (k ⊗ l) a b (add_comm (k ⊗ l) a ∙ ap (λ y. a ⊕ k ⊗ y) h ∙ e ∙ add_comm b (k ⊗ l))

pub ruleset quote = (here, there, q_add, q_mul, q_neg, q_one, q_zero, q_var, q_pow, q_nat, quoted)
