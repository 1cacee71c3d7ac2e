-- Each lawful image fits a half of a journal's disk.
use Rattle.std.proofs.Common.{◌≤◌, ◌<◌, ◌*◌, ℕ, nat_le, List, [], ◌∷◌, ◌++◌, length, length-append}
use Rattle.std.proofs.Common.{flat_map, ap, Option, Some, None, is_some, arith}
use Rattle.std.specs.Prelude.{All}
use Rattle.std.specs.Int.{to_be_bytes, w16}
use Rattle.std.specs.FinMap.{len}
use Rattle.std.proofs.lemmas.Bool.{leb-true, and_parts}
use Rattle.std.proofs.lemmas.List.Elements.{All-head, All-tail}
use Rattle.syn_model.specs.Path.{Bytes, IsPath}
use Rattle.syn_model.specs.Event.{Token}
use Rattle.syn_model.specs.Limits.{fits_part, fits_paths, tree_spelling_length, greatest_spelling}
use Rattle.syn_model.specs.Standing.{Touch}
use Rattle.syn_model.specs.History.{standing_of}
use Rattle.syn_model.specs.Spelling.{spelling}
use Rattle.syn_model.specs.Image.{last_token_spelling, touch_spelling}
use Rattle.syn_model.specs.ArchiveImage.{ArchiveImagesFit}
use Rattle.syn_model.specs.Laws.{ImagesFit, HistoryImagesFit}
use Rattle.syn_model.proofs.LengthLemmas.{spelled_less, marks_less}
use Rattle.syn_model.proofs.SoundStandings.{history-is_standing}

token_takes : (token : Option Token) → length (last_token_spelling token) ≤ 13
token_takes None = omega arith
token_takes (Some token) = omega arith

-- a touch is a position and a path
touches_take : (floor position : ℕ) (touches : List Touch) → All
    (λ touch. (floor ≤ touch.position) × (touch.position < position) × IsPath touch.path) touches →
    length (flat_map touch_spelling touches) ≤ 263 * length touches
touches_take floor position [] all = omega arith
touches_take floor position (touch ∷ touches) all =
    let P = λ (touch : Touch). (floor ≤ touch.position) × (touch.position < position)
    × IsPath touch.path in
    let one = (All-head P touch touches all).2.not_long in
    let rest = touches_take floor position touches (All-tail P touch touches all) in
    let more = length-append (touch_spelling touch) (flat_map touch_spelling touches) in
    omega (arith, one, rest, more)

pub images_fit : ImagesFit
images_fit pair standing is =
    let three = and_parts _ (fits_paths standing.tree) is.fits in
    let two = and_parts _ (fits_part standing.tree) three.0 in
    let fits = leb-true (tree_spelling_length standing.tree) greatest_spelling
    (and_parts (nat_le (len standing.tree) 1024)
    (nat_le (tree_spelling_length standing.tree) greatest_spelling) two.0).1 in
    let tree = spelled_less standing.tree (ap is_some is.tree.rooted) in
    let token = token_takes standing.token in
    let touches = touches_take standing.floor standing.position standing.touches is.touches in
    let count = is.count in
    let after = length-append (flat_map touch_spelling standing.touches)
    (spelling standing.tree) in
    let counted : Bytes = to_be_bytes w16 (length standing.touches)
    ++ (flat_map touch_spelling standing.touches ++ spelling standing.tree) in
    let whole = length-append (last_token_spelling standing.token) counted in
    omega (arith, fits, tree, token, touches, count, after, whole)

pub history_images_fit : HistoryImagesFit
history_images_fit pair history h =
    images_fit pair (standing_of history) (history-is_standing history h)

pub archive_images_fit : ArchiveImagesFit
archive_images_fit pair archive is =
    let fits = leb-true (len archive.marks) 4096
    (and_parts (nat_le (len archive.marks) 4096) (fits_paths archive.marks) is.fits).0 in
    let marks = marks_less archive.marks is.marks (ap is_some is.tree.rooted) in
    omega (arith, fits, marks)
