-- What is read of the parts of a directory, one name after the other.
use Rattle.std.proofs.Common.{◌≡◌, ◌≢◌, ◌<◌, ◌≤◌, ◌^◌, ◌+◌, ℕ, true, List, [], ◌∷◌, ◌++◌, length}
use Rattle.std.proofs.Common.{length-append, map, flat_map, refl, sym, ap, ap₂, ◌∙◌, subst, Option}
use Rattle.std.proofs.Common.{Some, None, is_some, IsSome, append_assoc, append-nil, true≢false}
use Rattle.std.proofs.Common.{arith}
use Rattle.std.specs.Prelude.{All}
use Rattle.std.specs.Int.{to_be_bytes, w16}
use Rattle.std.specs.List.{AllByRecursion}
use Rattle.std.specs.FinMap.{entries, get}
use Rattle.std.proofs.lemmas.Grind.{flat_map-append}
use Rattle.std.proofs.lemmas.List.{length-map, map-append}
use Rattle.std.proofs.lemmas.List.Elements.{All-head, All-tail}
use Rattle.std.proofs.lemmas.List.Folds.{flat_map-map}
use Rattle.std.proofs.lemmas.Option.{none-some, same_Some}
use Rattle.syn_model.specs.Path.{Bytes, Name, Path, IsName, IsPath, root}
use Rattle.syn_model.specs.Contents.{Contents}
use Rattle.syn_model.specs.Tree.{Tree, Content, Pair, Directory, File, is_present, subtree}
use Rattle.syn_model.specs.Limits.{children}
use Rattle.syn_model.proofs.TreeLemmas.{get-subtree}
use Rattle.syn_model.proofs.HistoryLemmas.{no_file}
use Rattle.syn_placed.specs.Pairs.{Pairs, under}
use Rattle.syn_wire.specs.inner.Kinds.{Kind, IsFileOf, IsPartOf, file_spelling_of, spelling_of}
use Rattle.syn_wire.specs.Names.{name_spelling}
use Rattle.syn_wire.specs.Reads.{BeginsWith, IsReading, NoneBeginsAnother}
use Rattle.syn_wire.specs.Trees.{last_name_spelling}
use Rattle.syn_wire.specs.inner.Parts.{IsChildOf, Parts, ReadsPart, ReadsParts, StandIn, StandsAt}
use Rattle.syn_wire.specs.inner.Parts.{parts_pairs, parts_spelling}
use Rattle.syn_wire.proofs.GroupLemmas.{file_alone, directory_grouped}
use Rattle.syn_wire.proofs.KindLemmas.{unfolds, is_part, is_file, has_few, is_part_below}
use Rattle.syn_wire.proofs.NameLemmas.{first_or, rest_of, names_tell}
use Rattle.syn_wire.proofs.WalkLemmas.{children_present}
use Rattle.syn_model.specs.Spelling.{content_spelling}
use Rattle.syn_model.proofs.BaseLemmas.{each_with}
use Rattle.syn_model.proofs.SpellingLemmas.{heads_differ}

-- the pair of the path itself
pub own_pair : (at : Path) (c : Content) → ◌≡◌ {A = Pair} (at ++ root, c) (at, c)
own_pair at c = ap (λ (p : Path). (p, c)) (append-nil at)

-- ---- paths one name below another

child_last : (above : Path) (name : Name) →
    last_name_spelling (above ++ name ∷ []) ≡ name_spelling name
child_last [] name = refl
child_last (m ∷ []) name = refl
child_last (m ∷ k ∷ above) name = child_last (k ∷ above) name

last_lawful : (above : Path) (name : Name) → All IsName (above ++ name ∷ []) → IsName name
last_lawful [] name h = All-head IsName name [] h
last_lawful (m ∷ above) name h = last_lawful above name (All-tail IsName m (above ++ name ∷ []) h)

-- such a path is spelled by its name
pub child_name : (above path : Path) (child : IsChildOf above path) →
    IsName child.name × (last_name_spelling path ≡ name_spelling child.name)
child_name above path child = (
  last_lawful above child.name (subst (All IsName) child.below child.lawful.names),
  ap last_name_spelling child.below ∙ child_last above child.name,
)

-- and a path has at most 16 names
pub child_deeper : (above path : Path) → IsChildOf above path →
    (length path ≤ 16) × (length path ≡ length above + 1)
child_deeper above path child =
    (child.lawful.not_deep, ap length child.below ∙ length-append above (child.name ∷ []))

pub no_child : (above : Path) (bytes : Bytes) → IsReading IsName name_spelling bytes None →
    IsReading (IsChildOf above) last_name_spelling bytes None
no_child above bytes none path rest begins =
    let name = child_name above path begins.lawful in
    none begins.lawful.name rest
    (record { lawful = name.0; spelled = begins.spelled ∙ ap (λ b. b ++ rest) name.1 })

pub a_child : (above path : Path) (bytes rest : Bytes) (name : Name) →
    BeginsWith IsName name_spelling bytes name rest → path ≡ above ++ name ∷ [] → IsPath path →
    BeginsWith (IsChildOf above) last_name_spelling bytes path rest
a_child above path bytes rest name found below lawful = record {
  lawful = record { name = name; below = below; lawful = lawful };
  spelled =
      found.spelled ∙ ap (λ b. b ++ rest)
      (sym (ap last_name_spelling below ∙ child_last above name));
}

pub bad_child : (above : Path) (bytes rest : Bytes) (name : Name) →
    BeginsWith IsName name_spelling bytes name rest → ¬ IsPath (above ++ name ∷ []) →
    IsReading (IsChildOf above) last_name_spelling bytes None
bad_child above bytes rest name found bad path more begins =
    let other = child_name above path begins.lawful in
    let same = names_tell begins.lawful.name name more rest other.0 found.lawful
    (sym (begins.spelled ∙ ap (λ b. b ++ more) other.1) ∙ found.spelled) in
    bad (subst IsPath (begins.lawful.below ∙ ap (λ n. above ++ n ∷ []) same.0) begins.lawful.lawful)

pub children_tell : (above : Path) → NoneBeginsAnother (IsChildOf above) last_name_spelling
children_tell above p q r s hp hq e =
    let a = child_name above p hp in
    let b = child_name above q hq in
    let same = names_tell hp.name hq.name r s a.0 b.0
    (sym (ap (λ x. x ++ r) a.1) ∙ (e ∙ ap (λ x. x ++ s) b.1)) in
    (hp.below ∙ (ap (λ n. above ++ n ∷ []) same.0 ∙ sym hq.below), same.1)

-- ---- what a kind says

-- spelled as a file
pub record IsFileAt (kind : Kind) (t : Tree) (fields rest : Bytes) : Type 0 where
  pub contents : Contents
  pub here : get t root ≡ Some (File contents)
  pub alone : entries t ≡ (root, File contents) ∷ []
  pub lawful : IsFileOf kind contents
  pub spelled : fields ≡ file_spelling_of kind contents ++ rest

-- what stands at each name in a directory
abbrev pub parts_in : Tree → Parts
parts_in t = map (λ child. (child.0, subtree t (child.0 ∷ []))) (children t root)

-- spelled as a directory
pub record IsDirectoryAt (kind : Kind) (t : Tree) (fields rest : Bytes) : Type 0 where
  pub here : get t root ≡ Some Directory
  pub few : length (parts_in t) < 2 ^ 16
  pub whole : entries t ≡ (root, Directory) ∷ parts_pairs root (parts_in t)
  pub spelled : fields ≡ to_be_bytes w16 (length (parts_in t))
      ++ (parts_spelling kind (parts_in t) ++ rest)

-- so many of the parts were read
pub record HaveRead (kind : Kind) (at : Path) (parts : Parts) (rest : Bytes) (count : ℕ)
    (left : Bytes) (old new : Pairs) : Type 0 where
  pub done : Parts
  pub others : Parts
  pub whole : parts ≡ done ++ others
  pub counted : length done ≡ count
  pub spelled : left ≡ parts_spelling kind others ++ rest
  pub listed : new ≡ old ++ parts_pairs at done

-- wherever the bytes spell as many as wanted
abbrev pub ReadSoFar : Kind → Path → ℕ → ℕ → Bytes → Bytes → Pairs → Pairs → Type 0
ReadSoFar kind at wanted count bytes left old new =
    (parts : Parts) (rest : Bytes) → length parts ≡ wanted → StandIn kind at parts →
    bytes ≡ parts_spelling kind parts ++ rest → HaveRead kind at parts rest count left old new

-- there is one more
pub record NextPart (kind : Kind) (at : Path) (parts : Parts) (rest : Bytes) (count : ℕ)
    (left : Bytes) (old new : Pairs) : Type 0 where
  pub done : Parts
  pub name : Name
  pub part : Tree
  pub others : Parts
  pub whole : parts ≡ done ++ (name, part) ∷ others
  pub counted : length done ≡ count
  pub stands : StandsAt kind (at ++ name ∷ []) part
  pub child : BeginsWith (IsChildOf at) last_name_spelling left (at ++ name ∷ [])
      (spelling_of kind part ++ (parts_spelling kind others ++ rest))
  pub listed : new ≡ old ++ parts_pairs at done

under_twice : (at : Path) (n : Name) (es : Pairs) →
    under at (under (n ∷ []) es) ≡ under (at ++ n ∷ []) es
under_twice at n [] = refl
under_twice at n (e ∷ es) =
    ap₂ (λ (p : Path) xs. (p, e.1) ∷ xs) (sym (append_assoc at (n ∷ []) e.0)) (under_twice at n es)

pub under_parts : (at : Path) (parts : Parts) →
    under at (parts_pairs root parts) ≡ parts_pairs at parts
under_parts at [] = refl
under_parts at (p ∷ parts) =
    map-append (λ (e : Pair). (at ++ e.0, e.1)) (under (p.0 ∷ []) (entries p.1))
    (parts_pairs root parts)
    ∙ ap₂ (λ a b. a ++ b) (under_twice at p.0 (entries p.1)) (under_parts at parts)

each_of_map : (P : Name × Tree → Type 0) (g : Name × Content → Name × Tree)
    (xs : List (Name × Content)) → AllByRecursion (λ x. P (g x)) xs → AllByRecursion P (map g xs)
each_of_map P g [] h = tt
each_of_map P g (x ∷ xs) h = (h.0, each_of_map P g xs h.1)

module _ (kind : Kind) where
  abbrev content_begins : Tree → Option Content → Bytes
  content_begins t o = content_spelling (file_spelling_of kind) (spelling_of kind) t o

  pub file_at : (t : Tree) (fields rest : Bytes) → IsPartOf kind t →
      1 ∷ fields ≡ spelling_of kind t ++ rest → IsFileAt kind t fields rest
  file_at t fields rest part e =
      by_content (get t root) refl (e ∙ ap (λ b. b ++ rest) (unfolds kind t))
    where
      by_content : (o : Option Content) → get t root ≡ o →
          1 ∷ fields ≡ content_begins t (get t root) ++ rest → IsFileAt kind t fields rest
      by_content None is k =
          heads_differ 1 0 _ _ (λ same. omega (arith, same))
          (k ∙ ap (λ o. content_begins t o ++ rest) is)
      by_content (Some Directory) is k =
          heads_differ 1 2 _ _ (λ same. omega (arith, same))
          (k ∙ ap (λ o. content_begins t o ++ rest) is)
      by_content (Some (File c)) is k = record {
        contents = c;
        here = is;
        alone =
            file_alone t (File c) (is_part kind t part).parents is
            (λ d. no_file c (same_Some _ _ (sym d ∙ is)));
        lawful = is_file kind t part c is;
        spelled = ap rest_of (k ∙ ap (λ o. content_begins t o ++ rest) is);
      }

  pub directory_at : (t : Tree) (fields rest : Bytes) → IsPartOf kind t →
      2 ∷ fields ≡ spelling_of kind t ++ rest → IsDirectoryAt kind t fields rest
  directory_at t fields rest part e =
      by_content (get t root) refl (e ∙ ap (λ b. b ++ rest) (unfolds kind t))
    where
      by_content : (o : Option Content) → get t root ≡ o →
          2 ∷ fields ≡ content_begins t (get t root) ++ rest → IsDirectoryAt kind t fields rest
      by_content None is k =
          heads_differ 2 0 _ _ (λ same. omega (arith, same))
          (k ∙ ap (λ o. content_begins t o ++ rest) is)
      by_content (Some (File c)) is k =
          heads_differ 2 1 _ _ (λ same. omega (arith, same))
          (k ∙ ap (λ o. content_begins t o ++ rest) is)
      by_content (Some Directory) is k =
          let named = λ (x : Name × Content). length x.0 ∷ x.0
          ++ spelling_of kind (subtree t (x.0 ∷ [])) in
          let counted = length-map (children t root)
          (λ (x : Name × Content). (x.0, subtree t (x.0 ∷ []))) in
          record {
            here = is;
            few = subst (λ n. n < 2 ^ 16) (sym counted) (has_few kind t part Directory is);
            whole =
                directory_grouped t (is_part kind t part).parents is
                ∙ ap (λ es. (root, Directory) ∷ es)
                (sym (flat_map-map (λ (p : Name × Tree). under (p.0 ∷ []) (entries p.1))
                (λ (x : Name × Content). (x.0, subtree t (x.0 ∷ []))) (children t root)));
            spelled =
                ap rest_of (k ∙ ap (λ o. content_begins t o ++ rest) is)
                ∙ (append_assoc (to_be_bytes w16 (length (children t root)))
                (flat_map named (children t root)) rest
                ∙ ap₂ (λ n b. to_be_bytes w16 n ++ (b ++ rest)) (sym counted)
                (sym (flat_map-map (λ (p : Name × Tree). length p.0 ∷ p.0 ++ spelling_of kind p.1)
                (λ (x : Name × Content). (x.0, subtree t (x.0 ∷ []))) (children t root))));
          }

  -- what is there has one of the two kinds
  pub one_kind : {X : Type 0} (at : Path) (t : Tree) (bytes rest : Bytes) → StandsAt kind at t →
      bytes ≡ spelling_of kind t ++ rest → ((fields : Bytes) → bytes ≡ 1 ∷ fields → X) →
      ((fields : Bytes) → bytes ≡ 2 ∷ fields → X) → X
  one_kind {X = X} at t bytes rest h e file directory = by_content (get t root) refl
    where
      begins : (o : Option Content) → get t root ≡ o → bytes ≡ content_begins t o ++ rest
      begins o is =
          e ∙ (ap (λ b. b ++ rest) (unfolds kind t) ∙ ap (λ c. content_begins t c ++ rest) is)

      by_content : (o : Option Content) → get t root ≡ o → X
      by_content None is = absurd (true≢false (sym h.present ∙ ap is_some is))
      by_content (Some (File c)) is = file _ (begins (Some (File c)) is)
      by_content (Some Directory) is = directory _ (begins (Some Directory) is)

  -- ---- parts of a directory

  pub parts_stand : (at : Path) (t : Tree) → StandsAt kind at t → StandIn kind at (parts_in t)
  parts_stand at t h =
      each_of_map (λ part. StandsAt kind (at ++ part.0 ∷ []) part.1)
      (λ x. (x.0, subtree t (x.0 ∷ []))) (children t root)
      (each_with (λ x. is_present (subtree t (x.0 ∷ [])) root ≡ true)
      (λ x. StandsAt kind (at ++ x.0 ∷ []) (subtree t (x.0 ∷ []))) (λ x there. one x.0 there)
      (children t root) (children_present t))
    where
      one : (n : Name) → is_present (subtree t (n ∷ [])) root ≡ true →
          StandsAt kind (at ++ n ∷ []) (subtree t (n ∷ []))
      one n there = record {
        part = is_part_below kind t n h.present h.part;
        present = there;
        paths =
            λ q some. subst IsPath (sym (append_assoc at (n ∷ []) q))
            (h.paths (n ∷ q) (subst IsSome (get-subtree t (n ∷ []) q) some));
      }

  -- ---- one part after the other

  pub none_read : (at : Path) (wanted : ℕ) (bytes : Bytes) (old : Pairs) →
      ReadSoFar kind at wanted 0 bytes bytes old old
  none_read at wanted bytes old parts rest long stand e =
      record {
        done = [];
        others = parts;
        whole = refl;
        counted = refl;
        spelled = e;
        listed = sym (append-nil old);
      }

  stands_last : (at : Path) (done : Parts) (p : Name × Tree) (others : Parts) →
      StandIn kind at (done ++ p ∷ others) → StandsAt kind (at ++ p.0 ∷ []) p.1
  stands_last at [] p others h = h.0
  stands_last at (q ∷ done) p others h = stands_last at done p others h.1

  pub next_part : (at : Path) (wanted count : ℕ) (left : Bytes) (old new : Pairs) (parts : Parts)
      (rest : Bytes) → length parts ≡ wanted → StandIn kind at parts → count < wanted →
      HaveRead kind at parts rest count left old new →
      NextPart kind at parts rest count left old new
  next_part at wanted count left old new parts rest long stand more h =
      by_others h.others h.whole h.spelled
    where
      by_others : (others : Parts) → parts ≡ h.done ++ others →
          left ≡ parts_spelling kind others ++ rest → NextPart kind at parts rest count left old new
      by_others [] whole spelled =
          absurd (omega (arith, ap length (whole ∙ append-nil h.done), h.counted, long, more))
      by_others (p ∷ others) whole spelled =
          let stands = stands_last at h.done p others (subst (StandIn kind at) whole stand) in
          let path : IsPath (at ++ p.0 ∷ []) =
          subst IsPath (append-nil (at ++ p.0 ∷ [])) (stands.paths root stands.present) in
          record {
            done = h.done;
            name = p.0;
            part = p.1;
            others = others;
            whole = whole;
            counted = h.counted;
            stands = stands;
            child = record {
              lawful = record { name = p.0; below = refl; lawful = path };
              spelled =
                  spelled ∙ (append_assoc (name_spelling p.0 ++ spelling_of kind p.1)
                  (parts_spelling kind others) rest
                  ∙ (append_assoc (name_spelling p.0) (spelling_of kind p.1)
                  (parts_spelling kind others ++ rest)
                  ∙ ap (λ b. b ++ (spelling_of kind p.1 ++ (parts_spelling kind others ++ rest)))
                  (sym (child_last at p.0))));
            };
            listed = h.listed;
          }

  -- one part more was read
  pub part_read : (at : Path) (parts : Parts) (rest : Bytes) (count : ℕ) (left left' : Bytes)
      (old new new' : Pairs) → (n : NextPart kind at parts rest count left old new) →
      left' ≡ parts_spelling kind n.others ++ rest →
      new' ≡ new ++ under (at ++ n.name ∷ []) (entries n.part) →
      HaveRead kind at parts rest (count + 1) left' old new'
  part_read at parts rest count left left' old new new' n spelled listed =
      let one : Name × Tree = (n.name, n.part) in
      record {
        done = n.done ++ one ∷ [];
        others = n.others;
        whole = n.whole ∙ sym (append_assoc n.done (one ∷ []) n.others);
        counted = length-append n.done (one ∷ []) ∙ ap (λ k. k + 1) n.counted;
        spelled = spelled;
        listed =
            listed ∙ (ap (λ es. es ++ under (at ++ n.name ∷ []) (entries n.part)) n.listed
            ∙ (append_assoc old (parts_pairs at n.done) (under (at ++ n.name ∷ []) (entries n.part))
            ∙ ap (λ es. old ++ es) (sym (flat_map-append (λ (p : Name × Tree). under (at ++ p.0
            ∷ []) (entries p.1)) n.done (one ∷ []) ∙ ap (λ es. parts_pairs at n.done ++ es)
            (append-nil (under (at ++ n.name ∷ []) (entries n.part)))))));
      }

  -- all were read
  pub all_read : (at : Path) (wanted count : ℕ) (bytes left : Bytes) (old new : Pairs) →
      count ≡ wanted → ReadSoFar kind at wanted count bytes left old new →
      ReadsParts kind at wanted bytes old new (Some left)
  all_read at wanted count bytes left old new ended so_far parts rest long stand e =
      by_others (h.others) h.whole h.spelled
    where
      h : HaveRead kind at parts rest count left old new
      h = so_far parts rest long stand e

      by_others : (others : Parts) → parts ≡ h.done ++ others →
          left ≡ parts_spelling kind others ++ rest →
          (Some left ≡ Some rest) × (new ≡ old ++ parts_pairs at parts)
      by_others [] whole spelled = (
        ap (λ b. Some b) spelled,
        h.listed
            ∙ ap (λ p. old ++ parts_pairs at p) (sym (whole ∙ append-nil h.done)),
      )
      by_others (p ∷ others) whole spelled =
          absurd (omega
          (arith, ap length whole, length-append h.done (p ∷ others), h.counted, long, ended))

  module _ (at : Path) (wanted count : ℕ) (bytes left : Bytes) (old new : Pairs)
      (so_far : ReadSoFar kind at wanted count bytes left old new) (more : count < wanted) where
    the_next : (parts : Parts) (rest : Bytes) → length parts ≡ wanted → StandIn kind at parts →
        bytes ≡ parts_spelling kind parts ++ rest → NextPart kind at parts rest count left old new
    the_next parts rest long stand e =
        next_part at wanted count left old new parts rest long stand more
        (so_far parts rest long stand e)

    -- there is a next name
    pub no_name_left : (new' : Pairs) → IsReading (IsChildOf at) last_name_spelling left None →
        ReadsParts kind at wanted bytes old new' None
    no_name_left new' none parts rest long stand e =
        let n = the_next parts rest long stand e in
        absurd (none (at ++ n.name ∷ [])
        (spelling_of kind n.part ++ (parts_spelling kind n.others ++ rest)) n.child)

    module _ (path : Path) (after : Bytes)
        (child : BeginsWith (IsChildOf at) last_name_spelling left path after) where
      -- what was read of the next part
      the_part : (new' : Pairs) (left' : Option Bytes) → ReadsPart kind path after new new' left' →
          (parts : Parts) (rest : Bytes) (n : NextPart kind at parts rest count left old new) →
          (left' ≡ Some (parts_spelling kind n.others ++ rest))
          × (new' ≡ new ++ under (at ++ n.name ∷ []) (entries n.part))
      the_part new' left' read parts rest n =
          let same = children_tell at path (at ++ n.name ∷ []) after
          (spelling_of kind n.part ++ (parts_spelling kind n.others ++ rest)) child.lawful
          n.child.lawful (sym child.spelled ∙ n.child.spelled) in
          subst (λ p. ReadsPart kind p after new new' left') same.0 read n.part
          (parts_spelling kind n.others ++ rest) n.stands same.1

      -- there is a part at the next name
      pub no_part_left : (new' new'' : Pairs) → ReadsPart kind path after new new' None →
          ReadsParts kind at wanted bytes old new'' None
      no_part_left new' new'' none parts rest long stand e =
          absurd
          (none-some _ (the_part new' None none parts rest (the_next parts rest long stand e)).0)

      pub part_more : (new' : Pairs) (left' : Bytes) →
          ReadsPart kind path after new new' (Some left') →
          ReadSoFar kind at wanted (count + 1) bytes left' old new'
      part_more new' left' read parts rest long stand e =
          let n = the_next parts rest long stand e in
          let one = the_part new' (Some left') read parts rest n in
          part_read at parts rest count left left' old new new' n (same_Some _ _ one.0) one.1
