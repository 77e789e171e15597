-- Laws of the definitions of specs/.
pub mod Lists
pub mod Laid
pub mod Sound
pub mod SoundTest
pub mod SoundLists
pub mod SoundQueue
pub mod SoundPush
pub mod SoundPoll
pub mod SoundCalls
pub mod OnTheWire
pub mod Flipped
pub mod Apart
pub mod Across
