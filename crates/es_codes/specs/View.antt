-- What tokens in code, and what stands in them, are.
use Rattle.std.specs.Prelude.{List, map}
use Rattle.es_steps.specs.Values as of
use Rattle.es_steps.specs.Context as of_name
use Rattle.es_steps.specs.Events as of_event
use Rattle.es_steps.specs.PrivateNames as of_private
use Rattle.es_codes.specs.Constants.{constant_of}
use Rattle.es_evaluation.specs.Flat as flat
use Rattle.es_codes.specs.declared.event.Home.{Home}
use Rattle.es_codes.specs.declared.event.PrivateTest.{PrivateTest}
use Rattle.es_codes.specs.declared.event.Detail.{Detail}
use Rattle.es_codes.specs.declared.event.Operation.{Operation}
use Rattle.es_codes.specs.declared.event.Place.{Place}
use Rattle.es_codes.specs.declared.event.Token.{Token}
use Rattle.es_codes.specs.declared.name.Referent.{Referent}
use Rattle.es_codes.specs.declared.name.NameKind.{NameKind}
use Rattle.es_codes.specs.declared.name.PrivateReference.{PrivateReference}

abbrev pub referent_of : Referent → of.Referent
referent_of (Referent.Bound b) = of.Bound b
referent_of (Referent.Free s) = of.Free s

abbrev pub kind_of : NameKind → of_name.NameKind
kind_of (NameKind.Fixed b) = of_name.Fixed b
kind_of (NameKind.Changing r) = of_name.Changing (referent_of r)
kind_of (NameKind.MeansClass n b) = of_name.MeansClass n b
kind_of (NameKind.Generated g) = of_name.Generated g
kind_of (NameKind.StaticMethod d n) = of_name.StaticMethod d n

abbrev pub reference_of : PrivateReference → of_private.PrivateReference
reference_of r = record { class = r.class; is_static = r.is_static; is_field = r.is_field; reads = r.reads; writes = r.writes }

abbrev pub home_of : Home → of.Home
home_of (Home.OfClass n) = of.OfClass n
home_of (Home.OfPrototype n) = of.OfPrototype n
home_of (Home.OfObject m) = of.OfObject m

abbrev pub test_of : PrivateTest → of.PrivateTest
test_of (PrivateTest.HasField d) = of.HasField d
test_of (PrivateTest.HasBrand n) = of.HasBrand n
test_of (PrivateTest.IsClass n) = of.IsClass n

abbrev pub detail_of : Detail → of_event.Detail
detail_of Detail.Operand = of_event.Operand
detail_of Detail.Empty = of_event.Empty
detail_of (Detail.Spelled s) = of_event.Spelled s
detail_of (Detail.Flag b) = of_event.Flag b
detail_of (Detail.Key k) = of_event.Key (constant_of k)
detail_of Detail.Opens = of_event.Opens
detail_of Detail.Closes = of_event.Closes
detail_of Detail.Prototype = of_event.Prototype
detail_of (Detail.Index i) = of_event.Index i
detail_of Detail.Rest = of_event.Rest

abbrev pub details_of : List Detail → List of_event.Detail
details_of ds = map detail_of ds

abbrev pub operation_of : Operation → of_event.Operation
operation_of (Operation.OfKind kind ds) = of_event.OfKind kind (details_of ds)
operation_of Operation.Delete = of_event.Delete
operation_of (Operation.Take ds) = of_event.Take (details_of ds)

abbrev pub place_of : Place → of_event.Place
place_of (Place.RightOf s) = of_event.RightOf s
place_of Place.Default = of_event.Default
place_of (Place.Part i) = of_event.Part i

abbrev pub token_of : Token → flat.Token
token_of (Token.ReadName m r) = flat.single (of_event.ReadName m (referent_of r))
token_of (Token.SetName r v) = flat.single (of_event.SetName (referent_of r) v)
token_of (Token.Get m o k) = flat.single (of_event.Get m o k)
token_of (Token.Set o k v) = flat.single (of_event.Set o k v)
token_of (Token.Define o k v) = flat.single (of_event.Define o k v)
token_of (Token.Call m f r vs) = flat.single (of_event.Call m f r vs)
token_of (Token.Construct m f vs) = flat.single (of_event.Construct m f vs)
token_of (Token.Operate m op vs) = flat.single (of_event.Operate m (operation_of op) vs)
token_of (Token.Update m s v) = flat.single (of_event.Update m s v)
token_of (Token.PrivateGet m d o) = flat.single (of_event.PrivateGet m d o)
token_of (Token.PrivateSet d o v) = flat.single (of_event.PrivateSet d o v)
token_of (Token.PrivateInitialize d o v) = flat.single (of_event.PrivateInitialize d o v)
token_of (Token.PrivateIn m t o) = flat.single (of_event.PrivateIn m (test_of t) o)
token_of (Token.AddBrand n o) = flat.single (of_event.AddBrand n o)
token_of (Token.SuperGet m h k t) = flat.single (of_event.SuperGet m (home_of h) k t)
token_of (Token.SuperSet h k v t) = flat.single (of_event.SuperSet (home_of h) k v t)
token_of (Token.SuperCall m n vs) = flat.single (of_event.SuperCall m n vs)
token_of (Token.SuperCallWithAll n) = flat.single (of_event.SuperCallWithAll n)
token_of Token.EnterBody = flat.single of_event.EnterBody
token_of (Token.InitializeClass n) = flat.single (of_event.InitializeClass n)
token_of Token.Throw = flat.single of_event.Throw
token_of (Token.Short v) = flat.single (of_event.Short v)
token_of Token.Begin = flat.begin
token_of (Token.End m p t v) = flat.ends m (place_of p) t v

abbrev pub tokens_of : List Token → List flat.Token
tokens_of ts = map token_of ts
