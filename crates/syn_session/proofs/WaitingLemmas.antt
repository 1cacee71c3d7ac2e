-- What waits on a side, and which directories are out, as answers are taken and more is asked for.
use Rattle.std.proofs.Common.{◌≡◌, ◌≢◌, ◌≤◌, ◌<◌, ◌+◌, ◌⊎◌, ◌==◌, ◌||◌, ℕ, zero, suc, Bool, true}
use Rattle.std.proofs.Common.{false, true≢false, not, cond, if◌then◌else◌, nat_le, nat_lt, List, []}
use Rattle.std.proofs.Common.{◌∷◌, ◌++◌, length, get_or, map, take, drop, Some, None, refl, sym}
use Rattle.std.proofs.Common.{ap, ap₂, ◌∙◌, subst, inl, inr, arith, append-nil, append_assoc, ◌^◌}
use Rattle.std.specs.Prelude.{All, AllPairs, Contains, filter}
use Rattle.std.specs.List.{list_any, position_or_len, remove}
use Rattle.std.specs.Ordering.{eq_by_cmp}
use Rattle.std.specs.Cmp.{eq_by_cmp_equiv}
use Rattle.std.proofs.lemmas.Bool.{eqb-true}
use Rattle.std.proofs.lemmas.Bool.Decides.{nat_tests}
use Rattle.std.proofs.lemmas.List.{get_or-map, length-append, length-map, map-append, take_all}
use Rattle.std.proofs.lemmas.List.{take-append-le}
use Rattle.std.proofs.lemmas.List.Elements.{All-contains, All-contains_itself, All-filter}
use Rattle.std.proofs.lemmas.List.Elements.{All-append, All-map, filter_passes}
use Rattle.std.proofs.lemmas.Map.Views.{list_any-from_Contains}
use Rattle.std.proofs.lemmas.Option.{none-some}
use Rattle.syn_machine.specs.Coordinator.{AreRising, IsListing, MayWait, Outstanding, asked_in}
use Rattle.syn_machine.specs.Coordinator.{most_listings, most_resends, numbered, once_more}
use Rattle.syn_machine.specs.Coordinator.{messages_to, without}
use Rattle.syn_machine.specs.Network.{Asks, Which}
use Rattle.syn_machine.specs.Side.{ListAt, Request}
use Rattle.syn_machine.proofs.Heard.{number_within, numbered-length}
use Rattle.syn_machine.proofs.WaitingLemmas.{asked_waits}
use Rattle.syn_machine.proofs.Rising.{all_stay, later_above, later_rise}
use Rattle.syn_message.specs.Requests.{request_of}
use Rattle.syn_model.specs.Path.{Path, path_cmp}
use Rattle.syn_model.proofs.PathLemmas.{path_total, path_itself, same_path}
use Rattle.syn_scan.specs.Asked.{is_out}
use Rattle.syn_scan.specs.Asked as scan
use Rattle.syn_session.specs.Sessions.{once_later, sent_again}
use Rattle.syn_session.specs.Answering.{IsAskedOn}
use Rattle.syn_session.specs.Sendings.{message_waiting}
use Rattle.syn_session.specs.Stages.{outstanding_of, waiting_of}
use Rattle.syn_session.specs.declared.peer.PeerState.{PeerState}
use Rattle.syn_session.specs.declared.requests.UnansweredRequest.{UnansweredRequest}

-- Lists

pub in_filter : {X : Type 0} (f : X → Bool) (xs : List X) (x : X) → Contains (filter f xs) x →
    Contains xs x × (f x ≡ true)
in_filter {X} f xs x c = (
  All-contains (Contains xs) (filter f xs) x
      (All-filter f (Contains xs) xs (All-contains_itself xs)) c,
  All-contains (λ y. f y ≡ true) (filter f xs) x (filter_passes f xs) c,
)

pub still_in-filter : {X : Type 0} (f : X → Bool) (xs : List X) (x : X) → Contains xs x →
    f x ≡ true → Contains (filter f xs) x
still_in-filter {X} f [] x c passes = absurd (omega (arith, c.1))
still_in-filter {X} f (y ∷ xs) x (zero, h, e) passes =
    subst (λ b. Contains (cond b (y ∷ filter f xs) (filter f xs)) x)
    (sym (ap f e ∙ passes)) (0, omega arith, e)
still_in-filter {X} f (y ∷ xs) x (suc k, h, e) passes =
    let rest = still_in-filter f xs x (k, omega (arith, h), e) passes in
    elim (f y) as (λ b. Contains (cond b (y ∷ filter f xs) (filter f xs)) x) [
      | true ↦ (suc rest.0, let w = rest.1 in omega (arith, w), rest.2)
      | false ↦ rest
    ]

pub filter_less : {X : Type 0} (f : X → Bool) (xs : List X) → length (filter f xs) ≤ length xs
filter_less {X} f [] = omega arith
filter_less {X} f (x ∷ xs) =
    let rest = filter_less f xs in
    elim (f x) as (λ b. length (cond b (x ∷ filter f xs) (filter f xs)) ≤ suc (length xs)) [
      | true ↦ omega (arith, rest)
      | false ↦ omega (arith, rest)
    ]

pub in_map : {X Y : Type 0} (f : X → Y) (xs : List X) (x : X) → Contains xs x →
    Contains (map f xs) (f x)
in_map {X} {Y} f [] x c = absurd (omega (arith, c.1))
in_map {X} {Y} f (y ∷ xs) x (zero, h, e) = (0, omega arith, ap f e)
in_map {X} {Y} f (y ∷ xs) x (suc k, h, e) =
    let rest = in_map f xs x (k, omega (arith, h), e) in
    (suc rest.0, let w = rest.1 in omega (arith, w), rest.2)

pub pairs_map : {X Y : Type 0} (R : Y → Y → Type 0) (f : X → Y) (xs : List X) →
    AllPairs (λ one other. R (f one) (f other)) xs → AllPairs R (map f xs)
pairs_map {X} {Y} R f [] pairs i j d before less = absurd (omega (arith, less))
pairs_map {X} {Y} R f (x ∷ xs) pairs i j d before less =
    let long = length-map (x ∷ xs) f in
    let within : j < length (x ∷ xs) = omega (arith, less, long) in
    subst (λ a. R a (get_or (map f (x ∷ xs)) j d))
    (sym (get_or-map f (x ∷ xs) i x d (omega (arith, before, within))))
    (subst (λ b. R (f (get_or (x ∷ xs) i x)) b) (sym (get_or-map f (x ∷ xs) j x d within))
    (pairs i j x before within))

-- What is out

pub out_contains : (out : List Path) (path : Path) → is_out out path ≡ true → Contains out path
out_contains [] path e = absurd (true≢false (sym e))
out_contains (first ∷ out) path e =
    elim (eq_by_cmp path_cmp path first) as (λ b. eq_by_cmp path_cmp path first ≡ b →
    (b || is_out out path) ≡ true → Contains (first ∷ out) path) [
      | true ↦ λ same _. (0, omega arith, sym (same_path path first same))
      | false ↦ λ _ e. let rest = out_contains out path e in
          (suc rest.0, let w = rest.1 in omega (arith, w), rest.2)
    ] refl e

pub contains_out : (out : List Path) (path : Path) → Contains out path → is_out out path ≡ true
contains_out out path c = list_any-from_Contains (eq_by_cmp_equiv path_total) path out c

-- another path is out no more
pub out_still : (out : List Path) (path other : Path) → other ≢ path → is_out out other ≡ true →
    is_out (scan.without out path) other ≡ true
out_still out path other apart is =
    contains_out (scan.without out path) other
    (still_in-filter (λ one. not (eq_by_cmp path_cmp path one)) out other
    (out_contains out other is) (differs (eq_by_cmp path_cmp path other) refl))
  where
    differs : (b : Bool) → eq_by_cmp path_cmp path other ≡ b → not b ≡ true
    differs false e = refl
    differs true e = absurd (apart (sym (same_path path other e)))

pub out_before : (out : List Path) (path other : Path) →
    is_out (scan.without out path) other ≡ true → (is_out out other ≡ true) × (other ≢ path)
out_before out path other is =
    let was = in_filter (λ one. not (eq_by_cmp path_cmp path one)) out other
    (out_contains (scan.without out path) other is) in (
      contains_out out other was.0,
      λ same. true≢false (sym was.1 ∙ ap not (subst (λ p. eq_by_cmp path_cmp path p ≡ true)
          (sym same) (path_itself path))),
    )

-- What was asked for under a number

pub its_number : (m n : ℕ) → m ≡ n → (m == n) ≡ true
its_number m n e = grind (arith, nat_tests)

pub other_number : (m n : ℕ) → m ≢ n → (m == n) ≡ false
other_number m n h = grind (arith, nat_tests)

pub first_is : (waiting : List Outstanding) (one : Outstanding) → AreRising waiting →
    Contains waiting one → asked_in waiting one.number ≡ Some one.request
first_is [] one rising c = absurd (omega (arith, c.1))
first_is (first ∷ more) one rising (zero, h, e) =
    ap (λ b. if b then Some first.request else asked_in more one.number)
    (its_number first.number one.number (ap (λ (o : Outstanding). o.number) e))
    ∙ ap (λ (o : Outstanding). Some o.request) e
first_is (first ∷ more) one rising (suc k, h, e) =
    let c : Contains more one = (k, omega (arith, h), e) in
    let above = All-contains (λ later. first.number < later.number) more one
    (later_above first more rising) c in
    ap (λ b. if b then Some first.request else asked_in more one.number)
    (other_number first.number one.number (λ same. omega (arith, above, same)))
    ∙ first_is more one (later_rise first more rising) c

-- where one alone waits, it is that
pub alone_is : (waiting : List Outstanding) (number : ℕ) (request : Request) →
    length waiting ≤ 1 → asked_in waiting number ≡ Some request → without number waiting ≡ []
alone_is [] number request few is = refl
alone_is (one ∷ []) number request few is =
    elim (one.number == number) as (λ b. (if b then Some one.request else None) ≡ Some request →
    cond (not b) (one ∷ []) [] ≡ []) [
      | true ↦ λ _. refl
      | false ↦ λ e. absurd (none-some _ e)
    ] is
alone_is (one ∷ next ∷ more) number request few is = absurd (omega (arith, few))

-- The code's list

abbrev pub has_number : ℕ → UnansweredRequest → Bool
has_number number one = one.message.value.number == number

pub asks_at : (waiting : List UnansweredRequest) (i number : ℕ) (d : UnansweredRequest) →
    i < length waiting →
    has_number number (get_or waiting i d) ≡ true →
    ((k : ℕ) → k < i → has_number number (get_or waiting k d) ≡ false) →
    asked_in (map outstanding_of waiting) number
    ≡ Some (request_of (get_or waiting i d).message.value.request)
asks_at [] i number d less same before = absurd (omega (arith, less))
asks_at (one ∷ more) zero number d less same before =
    ap (λ b. if b then Some (request_of one.message.value.request)
    else asked_in (map outstanding_of more) number) same
asks_at (one ∷ more) (suc i) number d less same before =
    ap (λ b. if b then Some (request_of one.message.value.request)
    else asked_in (map outstanding_of more) number) (before 0 (omega arith))
    ∙ asks_at more i number d (omega (arith, less)) same
    (λ k l. before (suc k) (omega (arith, l)))

pub removed_at : (waiting : List UnansweredRequest) (i number : ℕ) (d : UnansweredRequest) →
    i < length waiting →
    has_number number (get_or waiting i d) ≡ true →
    ((k : ℕ) → k < i → has_number number (get_or waiting k d) ≡ false) →
    AreRising (map outstanding_of waiting) →
    map outstanding_of (remove waiting i) ≡ without number (map outstanding_of waiting)
removed_at [] i number d less same before rising = absurd (omega (arith, less))
removed_at (one ∷ more) zero number d less same before rising =
    let above = subst (λ n. All (λ later. n < later.number) (map outstanding_of more))
    (eqb-true one.message.value.number number same)
    (later_above (outstanding_of one) (map outstanding_of more) rising) in
    sym (ap (λ b. cond (not b) (outstanding_of one ∷ without number (map outstanding_of more))
    (without number (map outstanding_of more))) same
    ∙ all_stay number (map outstanding_of more) above)
removed_at (one ∷ more) (suc i) number d less same before rising =
    ap (λ l. outstanding_of one ∷ l) (removed_at more i number d (omega (arith, less)) same
    (λ k l. before (suc k) (omega (arith, l)))
    (later_rise (outstanding_of one) (map outstanding_of more) rising))
    ∙ sym (ap (λ b. cond (not b)
    (outstanding_of one ∷ without number (map outstanding_of more))
    (without number (map outstanding_of more))) (before 0 (omega arith)))

pub none_has : (waiting : List UnansweredRequest) (number : ℕ) →
    nat_lt (position_or_len (has_number number) waiting) (length waiting) ≡ false →
    asked_in (map outstanding_of waiting) number ≡ None
none_has [] number e = refl
none_has (one ∷ more) number e =
    elim (has_number number one) as (λ b.
    nat_lt (cond (not b) (1 + position_or_len (has_number number) more) 0)
    (suc (length more)) ≡ false → (if b then Some (request_of one.message.value.request)
    else asked_in (map outstanding_of more) number) ≡ None) [
      | true ↦ λ e. absurd (first_less (length more) e)
      | false ↦ λ e. none_has more number (less _ _ e)
    ] e
  where
    first_less : (n : ℕ) → nat_lt 0 (suc n) ≡ false → ⊥
    first_less n e = grind (arith, nat_tests)

    less : (m n : ℕ) → nat_lt (1 + m) (suc n) ≡ false → nat_lt m n ≡ false
    less m n e = grind (arith, nat_tests)

pub cond_none : (b : Bool) (n : ℕ) → cond b (Some n) None ≡ None → b ≡ false
cond_none true n e = absurd (none-some _ (sym e))
cond_none false n e = refl

-- What may wait

pub may_less : (number : ℕ) (waiting : List Outstanding) → MayWait waiting →
    MayWait (without number waiting)
may_less number waiting may =
    let test : Outstanding → Bool = λ one. not (one.number == number) in
    let less = filter_less test waiting in
    elim may as (λ _. MayWait (without number waiting)) [
      | inl alone ↦ inl (omega (arith, less, alone))
      | inr listings ↦ let few = listings.1 in
          inr (
            All-filter test (λ one. IsListing one.request) waiting listings.0,
            omega (arith, less, few),
          )
    ]

pub numbered_listings : (count : ℕ) (paths : List Path) →
    All (λ one. IsListing one.request) (numbered count (map ListAt paths))
numbered_listings count [] k d less = absurd (omega (arith, less))
numbered_listings count (path ∷ paths) zero d less = tt
numbered_listings count (path ∷ paths) (suc k) d less =
    numbered_listings (suc count) paths k d (omega (arith, less))

pub may_listings : (waiting : List Outstanding) (count : ℕ) (paths : List Path) →
    MayWait waiting → All (λ one. IsListing one.request) waiting →
    (paths ≡ []) ⊎ (length waiting + length paths ≤ most_listings) →
    MayWait (waiting ++ numbered count (map ListAt paths))
may_listings waiting count paths may all (inl none) =
    subst MayWait (sym (ap (λ ps. waiting ++ numbered count (map ListAt ps)) none
    ∙ append-nil waiting)) may
may_listings waiting count paths may all (inr few) = inr (
  All-append (λ one. IsListing one.request) waiting (numbered count (map ListAt paths)) all
      (numbered_listings count paths),
  let long = length-append waiting (numbered count (map ListAt paths)) in
      let same = numbered-length count (map ListAt paths) in
      let mapped = length-map paths ListAt in
      omega (arith, long, same, mapped, few),
)

pub numbered_requests : (count : ℕ) (requests : List Request) →
    map (λ (one : Outstanding). one.request) (numbered count requests) ≡ requests
numbered_requests count [] = refl
numbered_requests count (request ∷ more) =
    ap (λ l. request ∷ l) (numbered_requests (suc count) more)

pub below_more : (waiting : List Outstanding) (count : ℕ) (requests : List Request) →
    All (λ one. one.number < count) waiting →
    All (λ one. one.number < count + length requests) (waiting ++ numbered count requests)
below_more waiting count requests below =
    All-append (λ one. one.number < count + length requests) waiting (numbered count requests)
    (λ k d less. let was = below k d less in omega (arith, was))
    (λ k d less. (number_within count requests (get_or (numbered count requests) k d)
    (All-contains_itself (numbered count requests) k d less)).1)

-- a request that waits is among those of the side
pub asked_has : (waiting : List Outstanding) (number : ℕ) (request : Request) →
    asked_in waiting number ≡ Some request →
    Contains (map (λ (one : Outstanding). one.request) waiting) request
asked_has waiting number request is =
    let it = asked_waits waiting number request is in
    subst (Contains (map (λ (one : Outstanding). one.request) waiting)) it.3
    (in_map (λ (one : Outstanding). one.request) waiting it.0 it.1)

pub listings_all : (waiting : List Outstanding) (P : Path → Type 0) → ((request : Request) →
    Contains (map (λ (one : Outstanding). one.request) waiting) request →
    (path : Path) × (request ≡ ListAt path) × P path) →
    All (λ one. IsListing one.request) waiting
listings_all waiting P each k d less =
    let one = get_or waiting k d in
    let it = each one.request (in_map (λ (one : Outstanding). one.request) waiting one
    (All-contains_itself waiting k d less)) in
    subst IsListing (sym it.1) tt

pub same_directory : (path other : Path) → ListAt path ≡ ListAt other → path ≡ other
same_directory path other e = ap path_in e
  where
    path_in : Request → Path
    path_in (ListAt at) = at
    path_in _ = path

-- Whether anything waits

pub some_wait : (waiting : List Outstanding) → nat_lt 0 (length waiting) ≡ true →
    1 ≤ length waiting
some_wait [] e = absurd (true≢false (sym e))
some_wait (one ∷ more) e = omega arith

pub none_wait : (waiting : List Outstanding) → nat_lt 0 (length waiting) ≡ false → waiting ≡ []
none_wait [] e = refl
none_wait (one ∷ more) e = absurd (never (length more) e)
  where
    never : (n : ℕ) → nat_lt 0 (suc n) ≡ false → ⊥
    never n e = grind (arith, nat_tests)

-- What was sent again

pub worn_same : (waiting : List UnansweredRequest) →
    list_any (λ one. nat_le most_resends one.resent) (map outstanding_of waiting)
    ≡ list_any (λ one. nat_le most_resends one.resent) waiting
worn_same [] = refl
worn_same (one ∷ more) = ap (λ b. nat_le most_resends one.resent || b) (worn_same more)

pub none_passes : {X : Type 0} (p : X → Bool) (xs : List X) → list_any p xs ≡ false → (k : ℕ)
    (d : X) → k < length xs → p (get_or xs k d) ≡ false
none_passes {X} p [] e k d less = absurd (omega (arith, less))
none_passes {X} p (x ∷ xs) e zero d less = first (p x) (list_any p xs) e
  where
    first : (a b : Bool) → (a || b) ≡ false → a ≡ false
    first false b e = refl
    first true b e = e
none_passes {X} p (x ∷ xs) e (suc k) d less =
    none_passes p xs (rest (p x) (list_any p xs) e) k d (omega (arith, less))
  where
    rest : (a b : Bool) → (a || b) ≡ false → b ≡ false
    rest false b e = e
    rest true b e = absurd (true≢false e)

pub resent_all : (was now : List UnansweredRequest) → length now ≡ length was → ((k : ℕ)
    (d : UnansweredRequest) →
    k < length was → get_or now k d ≡ sent_again (get_or was k d)) → now ≡ map sent_again was
resent_all [] [] long each = refl
resent_all [] (one ∷ now) long each = absurd (omega (arith, long))
resent_all (one ∷ was) [] long each = absurd (omega (arith, long))
resent_all (one ∷ was) (two ∷ now) long each =
    ap₂ (λ o l. o ∷ l) (each 0 one (omega arith))
    (resent_all was now (omega (arith, long))
    (λ k d less. each (suc k) d (omega (arith, less))))

pub resent_waits : (waiting : List UnansweredRequest) →
    map outstanding_of (map sent_again waiting) ≡ once_more (map outstanding_of waiting)
resent_waits [] = refl
resent_waits (one ∷ more) =
    ap (λ l. once_later (outstanding_of one) ∷ l) (resent_waits more)

pub resent_of : (session : ℕ) (waiting : List UnansweredRequest) →
    All (λ one. one.message.value.session ≡ session) waiting →
    All (λ one. one.message.value.session ≡ session) (map sent_again waiting)
resent_of session waiting all =
    All-map (λ one. one.message.value.session ≡ session) sent_again waiting all

pub written_back : (n : ℕ) (now was : List UnansweredRequest) → length now ≡ length was →
    n ≡ length was →
    take n (now ++ drop (length now) was) ≡ now
written_back n now was long whole =
    take-append-le n now (drop (length now) was) (omega (arith, long, whole))
    ∙ take_all n now (omega (arith, long, whole))

-- What is asked for on a side

numbered-append : (count : ℕ) (requests more : List Request) → numbered count (requests ++ more)
    ≡ numbered count requests ++ numbered (count + length requests) more
numbered-append count [] more =
    ap (λ n. numbered n more) (let e : count ≡ count + 0 = omega arith in e)
numbered-append count (request ∷ requests) more =
    ap (λ l. record { number = count; request = request; resent = 0 } ∷ l)
    (numbered-append (suc count) requests more
    ∙ ap (λ n. numbered (suc count) requests ++ numbered n more)
    (let e : suc count + length requests ≡ count + suc (length requests) = omega arith in e))

pub asked_more : (session : ℕ) (old between new : PeerState) (first second : List Request) →
    IsAskedOn session old between first → IsAskedOn session between new second →
    IsAskedOn session old new (first ++ second)
asked_more session old between new first second a b = record {
  waits =
      b.waits ∙ (ap₂ (λ w n. w ++ numbered n second) a.waits a.count
      ∙ (append_assoc (waiting_of old) (numbered old.next_number first)
      (numbered (old.next_number + length first) second)
      ∙ ap (λ l. waiting_of old ++ l) (sym (numbered-append old.next_number first second))));
  count =
      let one = a.count in
      let two = b.count in
      let long = length-append first second in
      omega (arith, one, two, long);
  few =
      elim b.few as (λ _. (first ++ second ≡ []) ⊎ (new.next_number ≤ 2 ^ 32)) [
        | inr few ↦ inr few
        | inl none ↦ elim a.few as (λ _. (first ++ second ≡ []) ⊎ (new.next_number ≤ 2 ^ 32)) [
          | inl nothing ↦ inl (ap₂ (λ l m. l ++ m) nothing none)
          | inr few ↦
              let two = b.count in
              let zero_more = ap length none in
              inr (omega (arith, few, two, zero_more))
        ]
      ];
  of_session = λ of. b.of_session (a.of_session of);
  scan = b.scan ∙ a.scan;
}

pub sent_more : (session : ℕ) (to : Which) (count : ℕ) (first second : List Request) →
    messages_to session to (numbered count (first ++ second))
    ≡ messages_to session to (numbered count first)
    ++ messages_to session to (numbered (count + length first) second)
sent_more session to count first second =
    ap (messages_to session to) (numbered-append count first second)
    ∙ map-append (λ one. Asks to session one.number one.request) (numbered count first)
    (numbered (count + length first) second)

-- What is sent of what waits

-- a request that is taken out leaves those of the session
pub taken_of : (session : ℕ) (waiting : List UnansweredRequest) (i : ℕ) → i < length waiting →
    All (λ one. one.message.value.session ≡ session) waiting →
    All (λ one. one.message.value.session ≡ session) (remove waiting i)
taken_of session [] i less all k d within = absurd (omega (arith, less))
taken_of session (one ∷ more) zero less all k d within =
    all (suc k) d (omega (arith, within))
taken_of session (one ∷ more) (suc i) less all zero d within = all 0 d (omega arith)
taken_of session (one ∷ more) (suc i) less all (suc k) d within =
    taken_of session more i (omega (arith, less)) (λ n e l. all (suc n) e (omega (arith, l))) k d
    (omega (arith, within))

pub sent_of : (session : ℕ) (side : Which) (waiting : List UnansweredRequest) →
    All (λ one. one.message.value.session ≡ session) waiting →
    map (message_waiting side) waiting ≡ messages_to session side (map outstanding_of waiting)
sent_of session side [] all = refl
sent_of session side (one ∷ more) all =
    ap₂ (λ s l. Asks side s one.message.value.number (request_of one.message.value.request) ∷ l)
    (all 0 one (omega arith))
    (sent_of session side more (λ n d l. all (suc n) d (omega (arith, l))))
