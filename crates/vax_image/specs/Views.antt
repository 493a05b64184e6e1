-- What the code keeps of a file, without where it lies in memory.
use Rattle.std.specs.Prelude.{List, map}
use Rattle.vax_image.specs.declared.fields.Cursor.{Cursor as Kept}
use Rattle.vax_image.specs.declared.first_version.Contents.{Contents as Found}
use Rattle.vax_image.specs.declared.texts.Text.{Text as Shared}
use Rattle.vax_image.specs.Texts.{Text}
use Rattle.vax_image.specs.Reading.{Cursor, Contents}

abbrev pub cursor : Kept → Cursor
cursor c = record { place = c.place; rest = c.rest.now }

abbrev pub contents : Found → Contents
contents c = record { image = c.image; complete = c.complete; end = cursor c.end }

abbrev pub text : Shared → Text
text t = record { bytes = t.bytes.now; constant = t.constant }

abbrev pub texts : List Shared → List Text
texts ts = map text ts
