-- A request of a kind has the fields of that kind.
use Rattle.std.proofs.Common.{◌≡◌, ◌≢◌, ◌++◌, ℕ, arith}
use Rattle.std.specs.Int.{to_be_bytes, w32}
use Rattle.syn_machine.specs.Side.{ListAt, Fetch, Replace}
use Rattle.syn_model.specs.Path.{Bytes, Path, IsPath, path_spelling}
use Rattle.syn_message.specs.Bodies.{SpellsNone}
use Rattle.syn_message.specs.Requests.{IsOfKind, fields_spelling, kind_of}
use Rattle.syn_message.specs.declared.kind.TheConstants.{LIST, FETCH, REPLACE}
use Rattle.syn_message.specs.inner.Heads.{IsLast, head_spelling}
use Rattle.syn_wire.specs.Events.{IsNumber32}

module _ (fields : Bytes) where
  pub list_none : ((path : Path) → IsPath path → fields ≢ path_spelling path)
      → SpellsNone (IsOfKind LIST) fields_spelling fields
  list_none none (ListAt path) of is = none path of.1 is
  list_none none other of is = absurd (let k : kind_of other ≡ LIST = of.0 in omega (arith, k))

  pub fetch_none : ((path : Path) (last : ℕ × ℕ) → IsPath path → IsLast last
      → fields ≢ path_spelling path ++ head_spelling last) → SpellsNone (IsOfKind FETCH)
      fields_spelling fields
  fetch_none none (Fetch path since offset) of is =
      none path (since, offset) of.1.0 (of.1.1, of.1.2) is
  fetch_none none other of is = absurd (let k : kind_of other ≡ FETCH = of.0 in omega (arith, k))

  pub replace_none : ((item : ℕ) (path : Path) (last : ℕ × ℕ) → IsNumber32 item → IsPath path
      → IsLast last → fields ≢ to_be_bytes w32 item ++ (path_spelling path ++ head_spelling last))
      → SpellsNone (IsOfKind REPLACE) fields_spelling fields
  replace_none none (Replace item path since size) of is =
      none item path (since, size) of.1.0 of.1.1 (of.1.2, of.1.3) is
  replace_none none other of is =
      absurd (let k : kind_of other ≡ REPLACE = of.0 in omega (arith, k))
