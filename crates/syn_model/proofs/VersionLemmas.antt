-- What is lawful where no mode is spelled is lawful where each is.
use Rattle.std.proofs.Common.{List, [], ◌∷◌}
use Rattle.syn_model.specs.Version.{Version}
use Rattle.syn_model.specs.Contents.{Contents, AreLawfulContents, AreLawfulContentsIn}
use Rattle.syn_model.specs.Tree.{Tree, IsPart, IsPartIn, IsTree, IsTreeIn}
use Rattle.syn_model.specs.Mark.{IsMarks, IsMarksIn}
use Rattle.syn_model.specs.Event.{Edit, Put, MakeDir, Remove, Chmod, Event, Edited, Began, Replaced}
use Rattle.syn_model.specs.Event.{IsLawfulEdit, IsLawfulEditIn, IsLawfulEvent, IsLawfulEventIn}
use Rattle.syn_model.specs.Standing.{Standing, standing_after, IsAllowedAt, IsAllowedIn}
use Rattle.syn_model.specs.Standing.{AllAllowedAt, AllAllowedIn}
use Rattle.syn_model.specs.Image.{IsStanding, IsStandingIn}
use Rattle.syn_model.specs.Archive.{Archive, Kept, Session, Recorded, RecordedDir, CanKeep}
use Rattle.syn_model.specs.Archive.{CanKeepIn, IsLawfulKept, IsLawfulKeptIn}
use Rattle.syn_model.specs.ArchiveImage.{IsArchive, IsArchiveIn}
use Rattle.syn_model.proofs.ContentsLemmas.{mode_now}

pub contents_now : (version : Version) (contents : Contents) →
    AreLawfulContentsIn version contents →
    AreLawfulContents contents
contents_now version contents is =
    record { mode = mode_now version contents.mode is.mode; bytes = is.bytes }

pub part_now : (version : Version) (tree : Tree) → IsPartIn version tree → IsPart tree
part_now version tree is = record {
  parents = is.parents;
  names = is.names;
  lawful = λ path contents found. contents_now version contents (is.lawful path contents found);
}

pub tree_now : (version : Version) (tree : Tree) → IsTreeIn version tree → IsTree tree
tree_now version tree is = record { rooted = is.rooted; part = part_now version tree is.part }

pub marks_now : (version : Version) (marks : Tree) → IsMarksIn version marks → IsMarks marks
marks_now version marks is = record {
  part = part_now version marks is.part;
  digests = is.digests;
}

pub standing_now : (version : Version) (standing : Standing) → IsStandingIn version standing →
    IsStanding standing
standing_now version standing is = record {
  tree = tree_now version standing.tree is.tree;
  fits = is.fits;
  old = λ two. absurd (cc two);
  position = is.position;
  floor = is.floor;
  session = is.session;
  token = is.token;
  count = is.count;
  touches = is.touches;
  rising = is.rising;
}

pub archive_now : (version : Version) (archive : Archive) → IsArchiveIn version archive →
    IsArchive archive
archive_now version archive is = record {
  tree = tree_now version archive.marks is.tree;
  marks = marks_now version archive.marks is.marks;
  fits = is.fits;
  session = is.session;
}

-- ---- events and records

edit_now : (version : Version) (edit : Edit) → IsLawfulEditIn version edit → IsLawfulEdit edit
edit_now version (Put path bytes) is = is
edit_now version (MakeDir path) is = is
edit_now version (Remove path) is = is
edit_now version (Chmod path mode) is = (is.0, is.1, tt)

pub event_now : (version : Version) (event : Event) → IsLawfulEventIn version event →
    IsLawfulEvent event
event_now version (Edited user edit) is = (is.0, edit_now version edit is.1)
event_now version (Began session) is = is
event_now version (Replaced token path since new) is = (is.0, is.1, is.2, part_now version new is.3)

pub allowed_now : (version : Version) (standing : Standing) (event : Event) →
    IsAllowedIn version standing event → IsAllowedAt standing event
allowed_now version standing event is =
    record { lawful = event_now version event is.lawful; not_refused = is.not_refused }

pub all_allowed_now : (version : Version) (standing : Standing) (events : List Event) →
    AllAllowedIn version standing events → AllAllowedAt standing events
all_allowed_now version standing [] all = tt
all_allowed_now version standing (event ∷ events) all = (
  allowed_now version standing event all.0,
  all_allowed_now version (standing_after standing event) events all.1,
)

kept_now : (version : Version) (kept : Kept) → IsLawfulKeptIn version kept → IsLawfulKept kept
kept_now version (Session session) is = tt
kept_now version (Recorded path marks) is = (is.0, marks_now version marks is.1)
kept_now version (RecordedDir path) is = is

pub can_now : (version : Version) (archive : Archive) (kept : Kept) →
    CanKeepIn version archive kept → CanKeep archive kept
can_now version archive kept can =
    record { lawful = kept_now version kept can.lawful; not_refused = can.not_refused }
