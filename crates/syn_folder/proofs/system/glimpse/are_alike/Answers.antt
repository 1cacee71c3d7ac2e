use Rattle.std.proofs.Common.{◌≡◌, ◌∙◌, ◌&&◌, Bool, true, ℕ, ℤ, ap, ap₂}
use Rattle.std.proofs.lemmas.Bool.{and_parts}
use Rattle.std.proofs.lemmas.Bool.Decides.{Decides-eqb, Decides-int_eq}
use Rattle.std.proofs.lemmas.Slice.Eq.{slice_eq-Decides}
use Rattle.std.specs.Bool.{Decides}
use Rattle.syn_folder.specs.declared.system.looks.Look.{Look}
use Rattle.syn_folder.proofs.system.glimpse.are_alike.Goals as goal

both : {a b : Bool} {P Q : Type 0} → Decides a P → Decides b Q → Decides (a && b) (P × Q)
both {a} {b} d e = (
  λ t. (d.0 (and_parts a b t).0, e.0 (and_parts a b t).1),
  λ pq. ap₂ (λ (x y : Bool). x && y) (d.1 pq.0) (e.1 pq.1),
)

look_of : ℕ → ℕ → ℕ → ℕ → ℤ × ℤ → ℤ × ℤ → Look
look_of device node mode length modified changed = record {
  device = device;
  node = node;
  mode = mode;
  length = length;
  modified = modified;
  changed = changed;
}

times : (s t : ℤ × ℤ) → (s.0 ≡ t.0) × (s.1 ≡ t.1) → s ≡ t
times s t same = ap₂ (λ (x y : ℤ). (x, y)) same.0 same.1

-- two looks are the same where all that they tell is
same_look : (a b : Look) → a.device ≡ b.device → a.node ≡ b.node → a.mode ≡ b.mode
    → a.length ≡ b.length → a.modified ≡ b.modified → a.changed ≡ b.changed → a ≡ b
unfolding look_of
same_look a b device node mode length modified changed =
    ap₂ (λ (d n : ℕ). look_of d n a.mode a.length a.modified a.changed) device node
    ∙ (ap₂ (λ (m l : ℕ). look_of b.device b.node m l a.modified a.changed) mode length
    ∙ ap₂ (λ (m c : ℤ × ℤ). look_of b.device b.node b.mode b.length m c) modified changed)

pub returns : goal.returns
returns c = slice_eq-Decides (λ (a b : Look).
    let all = both (Decides-eqb a.device b.device) (both (Decides-eqb a.node b.node)
    (both (Decides-eqb a.mode b.mode) (both (Decides-eqb a.length b.length)
    (both (both (Decides-int_eq a.modified.0 b.modified.0)
    (Decides-int_eq a.modified.1 b.modified.1))
    (both (Decides-int_eq a.changed.0 b.changed.0)
    (Decides-int_eq a.changed.1 b.changed.1)))))) in (
      λ t. let p = all.0 t in
          same_look a b p.0 p.1.0 p.1.1.0 p.1.1.1.0 (times a.modified b.modified p.1.1.1.1.0)
          (times a.changed b.changed p.1.1.1.1.1),
      λ e. all.1 (
        ap (λ (l : Look). l.device) e,
        (
          ap (λ (l : Look). l.node) e,
          (
            ap (λ (l : Look). l.mode) e,
            (
              ap (λ (l : Look). l.length) e,
              (
                (ap (λ (l : Look). l.modified.0) e, ap (λ (l : Look). l.modified.1) e),
                (ap (λ (l : Look). l.changed.0) e, ap (λ (l : Look). l.changed.1) e),
              ),
            ),
          ),
        ),
      ),
    )) c.args.looks.now c.args.others.now c.eq.result c.eq.ensures
