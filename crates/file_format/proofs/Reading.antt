-- What the reading call comes to, by cases of the verdict, and what its caller knows of it, by cases of the answer. Assumes nothing.
use Rattle.std.specs.Prelude.{◌≡◌, ◌⊎◌, ◌∷◌, ◌++◌, ◌≤◌, ◌<◌, Result, Ok, Err}
use Rattle.base_lists.specs.Kit.{◌∙◌, sym, ap, refl, List, [], ℕ, lit≤, subst, length, take, drop, take_at, ltb-false}
use Rattle.base_lists.proofs.Parts.{length-take-room}
use Rattle.file_format.proofs.Fields.{length-kinds, length-packages, length-labels, length-labels-from, length-starts, length-ends, stored-prefix}
use Rattle.graph.specs.Circuit.{Circuit, circuit}
use Rattle.graph.specs.Search.{radius}
use Rattle.file_format.specs.declared.File.TheVariants.{Neither}
use Rattle.file_format.specs.declared.FileRead.{FileRead}
use Rattle.file_format.specs.declared.Refusal.{Refusal}
use Rattle.file_format.specs.declared.Role.{Role}
use Rattle.file_format.specs.declared.Role.TheVariants as role
use Rattle.file_format.specs.declared.Size.{Size}
use Rattle.file_format.specs.Circuit.{Bounded}
use Rattle.file_format.specs.Reading.{reading, read_conditions, read_answer, filled, prefix, Stands, Held, Loaded, LinksTested}
use Rattle.file_format.specs.Reply.{reply, verdict_of, read_reply}
use Rattle.file_format.specs.Layout.{CircuitFile, fields, package_count, starts_at, ends_at, nodes_of, links_of, kinds_of, packages_of, starts_of, ends_of, labels_of, labels_from}
use Rattle.file_format.specs.Refusals.{Verdict, accept, refuse, first, file_conditions, size_number, link_number, short_table, by_number}
use Rattle.file_format.specs.Role.{min_nodes, max_nodes, max_links}
use Rattle.file_format.proofs.Refusals.{verdict-links, first-accept, first-refuse, first-parts, first_holds, tables-short-4, tables-fit-4, accepted, range-orders, verdict-turned, number-none, number-refused}
use Rattle.file_format.proofs.Accepted.{accepted-bounded}

pub answer-read : (n m : ℕ) (v : Verdict) (k l : ℕ) → read_answer v n m ≡ Ok (record { nodes = k; links = l }) → (v ≡ accept) × (k ≡ n) × (l ≡ m)
unfolding read_answer
answer-read n m accept k l e =
    let s : record { nodes = n; links = m } ≡ record { nodes = k; links = l } = cc in
    (refl, sym (ap (λ (x : Size). x.nodes) s), sym (ap (λ (x : Size). x.links) s))
answer-read n m (refuse y) k l e = (cc, cc, cc)

-- the same in document 01's terms
answer-reply : (v : Verdict) (n m : ℕ) → read_reply (read_answer v n m) ≡ reply v (n ∷ m ∷ [])
unfolding read_answer read_reply reply
answer-reply accept n m = refl
answer-reply (refuse x) n m = refl

-- ---- the call, by cases

-- What is known of an accepted call.
pub record Filled (r : Role) (file : CircuitFile) (kinds packages starts ends : List ℕ) (n m : ℕ) : Type 0 where
  pub sound : first (file_conditions r file) ≡ accept
  pub nodes : n ≡ nodes_of file
  pub links : m ≡ links_of file
  pub kinds_fit : nodes_of file ≤ length kinds
  pub packages_fit : package_count file.edition (nodes_of file) ≤ length packages
  pub starts_fit : links_of file ≤ length starts
  pub ends_fit : links_of file ≤ length ends

module _ (r : Role) (file : CircuitFile) (kinds packages starts ends : List ℕ) where
  pub reading-refused : (x : Refusal) → first (file_conditions r file) ≡ refuse x
      → reading r file kinds packages starts ends ≡ record { answer = Err x; reply = read_reply (Err x); kinds = kinds; packages = packages; starts = starts; ends = ends }
  unfolding reading read_conditions read_answer read_reply reply filled
  reading-refused x e = rw (first-refuse _ _ x e)

  module _ (e : first (file_conditions r file) ≡ accept) where
    pub reading-short :
        (length kinds < nodes_of file) ⊎ ((length packages < package_count file.edition (nodes_of file)) ⊎ ((length starts < links_of file) ⊎ (length ends < links_of file)))
        → reading r file kinds packages starts ends ≡ record { answer = Err (record { number = 8; file = Neither }); reply = read_reply (Err (record { number = 8; file = Neither })); kinds = kinds; packages = packages; starts = starts; ends = ends }
    unfolding reading read_conditions read_answer read_reply reply filled
    reading-short h = rw (first-accept _ _ e, tables-short-4 _ _ _ _ _ _ _ _ h)

    pub reading-filled : nodes_of file ≤ length kinds → package_count file.edition (nodes_of file) ≤ length packages → links_of file ≤ length starts → links_of file ≤ length ends
        → reading r file kinds packages starts ends
        ≡ record {
          answer = Ok (record { nodes = nodes_of file; links = links_of file });
          reply = read_reply (Ok (record { nodes = nodes_of file; links = links_of file }));
          kinds = kinds_of file ++ drop (nodes_of file) kinds;
          packages = packages_of file ++ drop (package_count file.edition (nodes_of file)) packages;
          starts = starts_of file ++ drop (links_of file) starts;
          ends = ends_of file ++ drop (links_of file) ends;
        }
    unfolding reading read_conditions read_answer read_reply reply filled
    reading-filled a p b d = rw (first-accept _ _ e, tables-fit-4 _ _ _ _ _ _ _ _ a p b d) (simp (length-kinds, length-packages, length-starts, length-ends))

  -- the reader's answer in document 01's terms
  pub reading-reply : read_reply (reading r file kinds packages starts ends).answer
      ≡ reply (first (read_conditions r file (length kinds) (length packages) (length starts) (length ends))) (nodes_of file ∷ links_of file ∷ [])
  unfolding reading
  reading-reply = answer-reply (first (read_conditions r file (length kinds) (length packages) (length starts) (length ends))) (nodes_of file) (links_of file)

  -- an accepted call: no condition on the file holds, the tables are long enough, and the reply has N and M
  pub reading-accepted : (n m : ℕ) → (reading r file kinds packages starts ends).answer ≡ Ok (record { nodes = n; links = m }) → Filled r file kinds packages starts ends n m
  unfolding reading read_conditions short_table
  reading-accepted n m e =
      let a = answer-read _ _ _ n m e in
      let h = first-parts (file_conditions r file) _ a.0 in
      let k = first_holds _ _ h.1 in
      let p = first_holds _ _ k.1 in
      let s = first_holds _ _ p.1 in
      let t = first_holds _ _ s.1 in
      record {
        sound = h.0;
        nodes = a.1;
        links = a.2;
        kinds_fit = ltb-false _ _ k.0;
        packages_fit = ltb-false _ _ p.0;
        starts_fit = ltb-false _ _ s.0;
        ends_fit = ltb-false _ _ t.0;
      }

-- ---- what a call knows of a file that was read for it

-- what an accepted file and what a refused one leave, by the verdict of the code
module _ {r : Role} {file : CircuitFile} {read : Result FileRead Refusal} {tables : Circuit} (l : Loaded r file read tables) where
  pub loaded-accepted : {size : FileRead} → read ≡ Ok size → first (file_conditions r file) ≡ accept
  unfolding verdict_of
  loaded-accepted e = sym l.verdict ∙ ap verdict_of e

  pub loaded-refused : {x : Refusal} → read ≡ Err x → first (file_conditions r file) ≡ refuse x
  unfolding verdict_of
  loaded-refused e = sym l.verdict ∙ ap verdict_of e

-- as the reader answers
pub refused-loaded : (r : Role) (file : CircuitFile) (tables : Circuit) {x : Refusal} → first (file_conditions r file) ≡ refuse x → Loaded r file (Err x) tables
unfolding verdict_of
refused-loaded r file tables e = record { verdict = sym e; held = λ size q. cc }

pub held-loaded : (r : Role) (file : CircuitFile) (size : FileRead) (tables : Circuit) → first (file_conditions r file) ≡ accept → Held r file size tables
    → Loaded r file (Ok size) tables
unfolding verdict_of
held-loaded r file size tables v h = record { verdict = sym v; held = λ read e. let is : size ≡ read = cc in subst (λ (x : FileRead). Held r file x tables) is h }

-- the fronts of the tables are as long as the counts say, and the tables have room for them
module _ {file : CircuitFile} {n m : ℕ} {t : Circuit} (s : Stands file n m t) where
  pub stands-size : (length (take n t.labels) ≡ n) × (length (take m t.starts) ≡ m) × (length (take m t.ends) ≡ m)
  stands-size = (
    ap (λ (c : Circuit). length c.labels) s.content ∙ length-labels file ∙ sym s.nodes,
    ap (λ (c : Circuit). length c.starts) s.content ∙ length-starts file ∙ sym s.links,
    ap (λ (c : Circuit). length c.ends) s.content ∙ length-ends file ∙ sym s.links,
  )

  -- what is said of the fronts is said of the file's links
  pub stands-links : {A : Type 0} (f : ℕ → List ℕ → List ℕ → A) → f n (take m t.starts) (take m t.ends) ≡ f (nodes_of file) (starts_of file) (ends_of file)
  stands-links f =
      let e = s.content in
      rw (s.nodes, ap (λ (c : Circuit). c.starts) e, ap (λ (c : Circuit). c.ends) e)

  pub stands-room : (n ≤ length t.labels) × (m ≤ length t.starts) × (m ≤ length t.ends)
  stands-room = let (k, a, b) = stands-size in (length-take-room n _ k, length-take-room m _ a, length-take-room m _ b)

  -- the circuit of an accepted file is within the role's maxima
  module _ (r : Role) (e : first (file_conditions r file) ≡ accept) where
    pub stands-bounded : Bounded r (prefix n m t)
    stands-bounded = rw s.content (accepted-bounded (accepted r file e))

    pub stands-range : (min_nodes r ≤ n) × (n ≤ max_nodes r) × (m ≤ max_links r)
    stands-range = rw (s.nodes, s.links) (range-orders r (nodes_of file) (links_of file) (accepted r file e).range)

-- ---- as the reader goes

-- the three stretches, stored
pub filled-stands : (file : CircuitFile) (marks starts ends ls ss es : List ℕ) (n m : ℕ) → n ≡ nodes_of file → m ≡ links_of file
    → ls ≡ labels_from file.edition file.bytes n ++ drop n marks → ss ≡ fields (drop (starts_at file.edition n) file.bytes) m ++ drop m starts → es ≡ fields (drop (ends_at file.edition n m) file.bytes) m ++ drop m ends
    → Stands file n m (circuit ls ss es)
unfolding labels_of labels_from kinds_of packages_of starts_of ends_of
filled-stands file marks starts ends ls ss es n m isN isM k s e =
    record {
      nodes = isN;
      links = isM;
      content =
          rw (ap (take n) k ∙ take_at (labels_from file.edition file.bytes n) (drop n marks) n (length-labels-from file.edition file.bytes n), stored-prefix _ starts ss m s, stored-prefix _ ends es m e, isN, isM);
    }

-- the size was tested: it refuses the file, or no number is left
module _ (r : Role) (file : CircuitFile) {A : Type 0} {sized : Result A Refusal} (l : verdict_of sized ≡ by_number r (size_number r file)) where
  pub size-turned : (t : Circuit) {x : Refusal} → sized ≡ Err x → Loaded r file (Err x) t
  unfolding verdict_of
  size-turned t e =
      let (some, is) = number-refused r (size_number r file) (sym l ∙ ap verdict_of e) in
      refused-loaded r file t (verdict-turned r file some ∙ is)

  pub size-none : {a : A} → sized ≡ Ok a → size_number r file ≡ 0
  unfolding verdict_of
  size-none e = number-none r _ (sym l ∙ ap verdict_of e)

-- the links, tested where they stand
module _ (r : Role) (file : CircuitFile) (n m : ℕ) (t : Circuit) (s : Stands file n m t) (z : size_number r file ≡ 0) {tested : Result ℕ Refusal}
    (l : LinksTested r n (take m t.starts) (take m t.ends) tested) where
  by-links : first (file_conditions r file) ≡ verdict_of tested
  by-links = verdict-links r file z ∙ ap (by_number r) (sym (stands-links s (link_number r))) ∙ sym l.verdict

  pub links-turned : {x : Refusal} → tested ≡ Err x → Loaded r file (Err x) t
  unfolding verdict_of
  links-turned e = refused-loaded r file t (by-links ∙ ap verdict_of e)

  pub links-sound : {w : ℕ} → tested ≡ Ok w → Loaded r file (Ok (record { nodes = n; links = m; radius = w })) t
  unfolding verdict_of
  links-sound e =
      held-loaded r file _ t (by-links ∙ ap verdict_of e)
      (record { stands = s; measured = λ c. l.measured _ e c ∙ stands-links s radius })

-- the largest of the roles' maxima
pub role-bounds : (r : Role) → (max_nodes r ≤ 512) × (max_links r ≤ 4096)
role-bounds role.Pattern = (lit≤ tt, lit≤ tt)
role-bounds role.Board = (lit≤ tt, lit≤ tt)
role-bounds role.AnyPattern = (lit≤ tt, lit≤ tt)
