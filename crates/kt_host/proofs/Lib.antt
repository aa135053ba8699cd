mod Streams
